-- Paths along the blocks of long strings that have one end.
use Rattle.std.proofs.Common.{◌≡◌, Bool, true, false, cond, ℕ, zero, suc, ◌+◌, ◌-◌, ◌*◌, ◌/◌, ◌≤◌, List, [], ◌∷◌, ◌++◌, length, get_or, take, drop, Some, None, refl, sym, ap, subst, ◌∙◌, arith, inl, inr}
use Rattle.std.specs.Prelude.{option_and_then, max}
use Rattle.std.specs.Ordering.{nat_cmp}
use Rattle.std.specs.BTreeMap.{get, is_at}
use Rattle.std.specs.Map.{lookup}
use Rattle.pe_tables.specs.TextMap.{found}
use Rattle.std.specs.declared.vec.Vec.{Vec}
use Rattle.std.proofs.lemmas.Bool.{cases_lt}
use Rattle.std.proofs.lemmas.Map.Lookups.{exact_unsigned}
use Rattle.std.proofs.lemmas.Option.{same_Some, slice_get_past}
use Rattle.std.proofs.lemmas.List.{length-append, length-drop, drop-drop, take-append-drop}
use Rattle.std.proofs.Math.Seq.{drop-append_seam}
use Rattle.pe_tables.specs.Forwarders.{part_before}
use Rattle.pe_tables.specs.LongTexts.{block, longer, node_of, IsTrie, Grows, Leads, IsPath, AreLongTextsOf}
use Rattle.pe_tables.specs.declared.long_texts.Node.{Node}
use Rattle.pe_tables.specs.declared.long_texts.LongTexts.{LongTexts}
use Rattle.pe_tables.proofs.ForwarderEndings.{part_drop, equal_only}
use Rattle.pe_tables.proofs.LongTexts.{node_kept, node_same, entry_before}

-- the last blocks of a string are those of its end
block_end : (more text : List ℕ) (k : ℕ) → 256 * (k + 1) ≤ length text → block (more ++ text) k ≡ block text k
block_end more text k le =
    let size : length (more ++ text) ≡ length more + length text = length-append more text in
    let start : length (more ++ text) - 256 * k - 256 ≡ length more + (length text - 256 * k - 256) = omega (arith, size, le) in
    let count : length (more ++ text) - 256 * k - (length (more ++ text) - 256 * k - 256) ≡ length text - 256 * k - (length text - 256 * k - 256) = omega (arith, size, le) in
    let dropped : drop (length more + (length text - 256 * k - 256)) (more ++ text) ≡ drop (length text - 256 * k - 256) text =
    sym (drop-drop (length text - 256 * k - 256) (length more) (more ++ text)) ∙ ap (drop (length text - 256 * k - 256)) (drop-append_seam more text) in
    ap (λ (n : ℕ). take n (drop (length (more ++ text) - 256 * k - 256) (more ++ text))) count
    ∙ ap (take (length text - 256 * k - (length text - 256 * k - 256))) (ap (λ (n : ℕ). drop n (more ++ text)) start ∙ dropped)

module _ {A : Type 0} where
  node_end : (nodes : List (Node A)) (more text : List ℕ) (k : ℕ) → 256 * k ≤ length text → node_of nodes (more ++ text) k ≡ node_of nodes text k
  node_end nodes more text zero le = refl
  node_end nodes more text (suc k) le =
      ap (λ (bs : List ℕ). option_and_then (λ n. longer nodes n bs) (node_of nodes (more ++ text) k)) (block_end more text k (omega (arith, le)))
      ∙ ap (option_and_then (λ n. longer nodes n (block text k))) (node_end nodes more text k (omega (arith, le)))

  -- a string and the last bytes before its end lead to one node
  pub same_node : (nodes : List (Node A)) (file : List ℕ) (end : ℕ) (text : List ℕ) (k : ℕ) → length text ≤ end → text ≡ part_before file end (length text) → 256 * k ≤ length text
      → node_of nodes text k ≡ node_of nodes (part_before file end (256 * k)) k
  same_node nodes file end text k inside is le =
      let last : drop (length text - 256 * k) text ≡ part_before file end (256 * k) = ap (drop (length text - 256 * k)) is ∙ part_drop file end (length text) (256 * k) inside le in
      let size = length-drop (length text - 256 * k) text in
      ap (λ (t : List ℕ). node_of nodes t k) (sym (take-append-drop (length text - 256 * k) text))
      ∙ node_end nodes (take (length text - 256 * k) text) (drop (length text - 256 * k) text) k (omega (arith, size, le))
      ∙ ap (λ (t : List ℕ). node_of nodes t k) last

  pub leads_of_path : (nodes : List (Node A)) (file : List ℕ) (end : ℕ) (text path : List ℕ) → length text ≤ end → text ≡ part_before file end (length text) → IsPath nodes file end path → Leads nodes text path
  leads_of_path nodes file end text path inside is along = λ k le fits. same_node nodes file end text k inside is fits ∙ (along k le).1

  pub path_kept : (old new : List (Node A)) → Grows old new → (file : List ℕ) (end : ℕ) (path : List ℕ) → IsPath old file end path → IsPath new file end path
  path_kept old new grows file end path along = λ k le. ((along k le).0, node_kept old new grows (part_before file end (256 * k)) k (get_or (0 ∷ path) k 0) (along k le).1)

  -- a path that continues along a string
  pub path_on : (nodes : List (Node A)) (file : List ℕ) (end : ℕ) (text old more : List ℕ) → length text ≤ end → text ≡ part_before file end (length text) → IsPath nodes file end old
      → Leads nodes text (old ++ more) → 256 * (length text / 256) ≤ length text → length (old ++ more) ≤ max (length old) (length text / 256) → IsPath nodes file end (old ++ more)
  path_on nodes file end text old more inside is along leads whole needed = λ k le. elim (cases_lt (length old) k) [
    | inr before ↦ ((along k before).0, (along k before).1 ∙ ap (λ (n : ℕ). Some n) (entry_before old more k before))
    | inl behind ↦
        (let fits : 256 * k ≤ length text = omega (arith, behind, le, needed, whole) in
        (omega (arith, fits, inside), sym (same_node nodes file end text k inside is fits) ∙ leads k le fits))
  ]

  -- paths remain valid when links are added
  pub known_kept : (file : List ℕ) (old new : LongTexts A) → AreLongTextsOf file old → Grows old.nodes.items new.nodes.items → IsTrie new.nodes.items → new.paths ≡ old.paths → AreLongTextsOf file new
  known_kept file old new known grows trie paths = record {
    trie = trie;
    paths = λ end path is. path_kept old.nodes.items new.nodes.items grows file end path.items
        (known.paths end path (ap (λ ps. get nat_cmp ps end) (sym paths) ∙ is));
  }

  -- one path less, and one more
  pub one_less : (file : List ℕ) (old new : LongTexts A) (end : ℕ) → AreLongTextsOf file old → new.nodes ≡ old.nodes
      → ((q : ℕ) → get nat_cmp new.paths q ≡ cond (is_at (nat_cmp end) q) None (get nat_cmp old.paths q)) → AreLongTextsOf file new
  one_less file old new end known nodes paths = record {
    trie = subst (λ (ns : Vec (Node A) A). IsTrie ns.items) (sym nodes) known.trie;
    paths = λ q path is. subst (λ (ns : Vec (Node A) A). IsPath ns.items file q path.items) (sym nodes) (by q path (is_at (nat_cmp end) q) (sym (paths q) ∙ is));
  }
    where
      by : (q : ℕ) (path : Vec ℕ A) (b : Bool) → cond b None (get nat_cmp old.paths q) ≡ Some path → IsPath old.nodes.items file q path.items
      by q path true is = absurd cc
      by q path false is = known.paths q path is

  pub one_more : (file : List ℕ) (old new : LongTexts A) (end : ℕ) (path : Vec ℕ A) → AreLongTextsOf file old → IsPath old.nodes.items file end path.items → new.nodes ≡ old.nodes
      → ((q : ℕ) → get nat_cmp new.paths q ≡ cond (is_at (nat_cmp end) q) (Some path) (get nat_cmp old.paths q)) → AreLongTextsOf file new
  one_more file old new end path known along nodes paths = record {
    trie = subst (λ (ns : Vec (Node A) A). IsTrie ns.items) (sym nodes) known.trie;
    paths = λ q other is. subst (λ (ns : Vec (Node A) A). IsPath ns.items file q other.items) (sym nodes) (by q other (is_at (nat_cmp end) q) refl (sym (paths q) ∙ is));
  }
    where
      by : (q : ℕ) (other : Vec ℕ A) (b : Bool) → is_at (nat_cmp end) q ≡ b → cond b (Some path) (get nat_cmp old.paths q) ≡ Some other → IsPath old.nodes.items file q other.items
      by q other true here is =
          subst (λ (n : ℕ). IsPath old.nodes.items file n other.items) (exact_unsigned end q (equal_only _ here))
          (subst (λ (p : Vec ℕ A). IsPath old.nodes.items file end p.items) (same_Some _ _ is) along)
      by q other false here is = known.paths q other is

  -- paths remain valid when a target is added
  pub known_same : (file : List ℕ) (old new : LongTexts A) → AreLongTextsOf file old → ((n : ℕ) (bytes : List ℕ) → longer new.nodes.items n bytes ≡ longer old.nodes.items n bytes)
      → length new.nodes.items ≡ length old.nodes.items → new.paths ≡ old.paths → AreLongTextsOf file new
  known_same file old new known links count paths = record {
    trie = record {
      tail = known.trie.tail;
      root = known.trie.root;
      link = λ n c bytes is. let link = known.trie.link n c bytes (sym (links n bytes) ∙ is) in let below = link.1 in (link.0, omega (arith, below, count));
    };
    paths = λ end path is k le.
        let along = known.paths end path (ap (λ ps. get nat_cmp ps end) (sym paths) ∙ is) k le in
        (along.0, node_same old.nodes.items new.nodes.items links (part_before file end (256 * k)) k ∙ along.1);
  }

  -- without strings there are no paths
  pub nothing_known : (file : List ℕ) (texts : LongTexts A) → texts.nodes.items ≡ [] → texts.paths.entries ≡ [] → AreLongTextsOf file texts
  nothing_known file texts nodes paths = record {
    trie = record {
      tail = λ k. [];
      root = refl;
      link = λ n c bytes is. absurd (let none = sym (nowhere n bytes) ∙ ap (λ ns. longer ns n bytes) (sym nodes) ∙ is in cc);
    };
    paths = λ end path is. absurd (let none = sym (ap (lookup (is_at (nat_cmp end))) paths) ∙ is in cc);
  }
    where
      nowhere : (n : ℕ) (bytes : List ℕ) → longer {A = A} [] n bytes ≡ None
      nowhere n bytes = ap (option_and_then (λ (x : Node A). found bytes x.longer.entries)) (slice_get_past [] n (omega arith))
