-- Long strings by their blocks.
use Rattle.std.proofs.Common.{◌≡◌, ◌≢◌, Bool, true, false, ℕ, zero, suc, ◌+◌, ◌-◌, ◌*◌, ◌/◌, ◌%◌, ◌<◌, ◌≤◌, List, [], ◌∷◌, ◌++◌, length, get_or, take, drop, ◌⊎◌, Option, Some, None, refl, sym, ap, ◌∙◌, arith, inl, inr}
use Rattle.std.specs.Borrow.{Bor}
use Rattle.std.specs.Prelude.{◌==◌, ◌&&◌, slice_get, slice_set, option_and_then, if◌then◌else◌}
use Rattle.std.specs.Str.{bytes_eq}
use Rattle.std.specs.BTreeMap.{insert_entry}
use Rattle.std.proofs.lemmas.Bool.{cases_lt, cases_Bool, and_parts, eqb-true, true≢false}
use Rattle.std.proofs.lemmas.Slice.Eq.{bytes_eq-Decides}
use Rattle.std.proofs.lemmas.Bool.Decides.{eqb_tells}
use Rattle.std.proofs.lemmas.List.{length-append, drop-drop, drop_all, take-append-drop, length-set, get_or-set_same, get_or-set_other}
use Rattle.std.proofs.lemmas.Option.{same_Some, slice_get-get_or, slice_get_past, slice_get_within}
use Rattle.std.proofs.Math.Nat.{div-add-mod}
use Rattle.pe_tables.specs.TextMap.{found}
use Rattle.pe_tables.proofs.TextMap.{compare, inserted}
use Rattle.pe_tables.specs.LongTexts.{block, front, longer, held_at, node_of, long_held, IsTrie, Grows, Leads}
use Rattle.pe_tables.specs.declared.key.Target.{Target}
use Rattle.pe_tables.specs.declared.long_texts.Node.{Node}

eqb-true-same : (k : ℕ) → (k == k) ≡ true
eqb-true-same k = elim (eqb_tells k k) [ inl same ↦ same.0 | inr apart ↦ absurd (apart.1 refl) ]

-- a block and the bytes after it
blocks_left : (text : List ℕ) (k : ℕ) → 256 * (k + 1) ≤ length text → block text k ++ drop (length text - 256 * k) text ≡ drop (length text - 256 * (k + 1)) text
blocks_left text k le =
    let start : length text - 256 * k - 256 ≡ length text - 256 * (k + 1) = omega arith in
    let some : length text - 256 * k - (length text - 256 * k - 256) ≡ 256 = omega (arith, le) in
    let end : length text - 256 * k - 256 + 256 ≡ length text - 256 * k = omega (arith, le) in
    ap (λ (n : ℕ). take n (drop (length text - 256 * k - 256) text) ++ drop (length text - 256 * k) text) some
    ∙ ap (λ (bs : List ℕ). take 256 (drop (length text - 256 * k - 256) text) ++ bs) (ap (λ (n : ℕ). drop n text) (sym end) ∙ sym (drop-drop 256 (length text - 256 * k - 256) text))
    ∙ take-append-drop 256 (drop (length text - 256 * k - 256) text) ∙ ap (λ (n : ℕ). drop n text) start

-- the nodes of a path, of which the first is the root
pub entry_before : (path more : List ℕ) (k : ℕ) → k ≤ length path → get_or (0 ∷ path) k 0 ≡ get_or (0 ∷ (path ++ more)) k 0
entry_before path more zero le = refl
entry_before [] more (suc k) le = absurd (omega (arith, le))
entry_before (n ∷ path) more (suc zero) le = refl
entry_before (n ∷ path) more (suc (suc k)) le = entry_before path more (suc k) (omega (arith, le))

entry_last : (path : List ℕ) (next : ℕ) → get_or (0 ∷ (path ++ next ∷ [])) (length path + 1) 0 ≡ next
entry_last path next =
    let e : length path + 1 ≡ suc (length path) = omega arith in
    ap (λ (j : ℕ). get_or (0 ∷ (path ++ next ∷ [])) j 0) e ∙ last path
  where
    last : (path : List ℕ) → get_or (path ++ next ∷ []) (length path) 0 ≡ next
    last [] = refl
    last (n ∷ path) = last path

module _ {A : Type 0} where
  pub node_at : (nodes : List (Node A)) (n : ℕ) (node : Node A) → n < length nodes → node ≡ get_or nodes n node → slice_get nodes n ≡ Some node
  node_at nodes n node lt is = slice_get-get_or nodes n node lt ∙ ap (λ (x : Node A). Some x) (sym is)

  pub longer_at : (nodes : List (Node A)) (n : ℕ) (node : Node A) (bytes : List ℕ) → slice_get nodes n ≡ Some node → longer nodes n bytes ≡ found bytes node.longer.entries
  longer_at nodes n node bytes at = ap (option_and_then (λ (x : Node A). found bytes x.longer.entries)) at

  pub target_at : (nodes : List (Node A)) (n : ℕ) (node : Node A) (bytes : List ℕ) → slice_get nodes n ≡ Some node → held_at nodes n bytes ≡ found bytes node.targets.entries
  target_at nodes n node bytes at = ap (option_and_then (λ (x : Node A). found bytes x.targets.entries)) at

  -- after a missing node no other is found
  pub none_on : (nodes : List (Node A)) (text : List ℕ) (k more : ℕ) → node_of nodes text k ≡ None → node_of nodes text (more + k) ≡ None
  none_on nodes text k zero none = let e : 0 + k ≡ k = omega arith in ap (node_of nodes text) e ∙ none
  none_on nodes text k (suc more) none =
      let e : suc more + k ≡ suc (more + k) = omega arith in
      ap (node_of nodes text) e ∙ ap (option_and_then (λ n. longer nodes n (block text (more + k)))) (none_on nodes text k more none)

  pub node_after : (nodes : List (Node A)) (text : List ℕ) (k : ℕ) → node_of nodes text (k + 1) ≡ option_and_then (λ n. longer nodes n (block text k)) (node_of nodes text k)
  node_after nodes text k = let e : k + 1 ≡ suc k = omega arith in ap (node_of nodes text) e

  -- ---- a node replaced by another
  module _ (nodes : List (Node A)) (n : ℕ) (new : Node A) where
    set_same : n < length nodes → slice_get (slice_set nodes n new) n ≡ Some new
    set_same lt = let size = length-set nodes n new in slice_get-get_or (slice_set nodes n new) n new (omega (arith, lt, size)) ∙ ap (λ (x : Node A). Some x) (get_or-set_same nodes n new new lt)

    set_other : (m : ℕ) → m ≢ n → slice_get (slice_set nodes n new) m ≡ slice_get nodes m
    set_other m apart =
        let size = length-set nodes n new in
        elim (cases_lt m (length nodes)) [
          | inl lt ↦
              slice_get-get_or (slice_set nodes n new) m new (omega (arith, lt, size)) ∙ ap (λ (x : Node A). Some x) (get_or-set_other nodes n m new new apart)
              ∙ sym (slice_get-get_or nodes m new lt)
          | inr le ↦ slice_get_past (slice_set nodes n new) m (omega (arith, le, size)) ∙ sym (slice_get_past nodes m le)
        ]

  module _ (nodes : List (Node A)) (n : ℕ) (old new : Node A) (at : slice_get nodes n ≡ Some old) where
    inside : n < length nodes
    inside = slice_get_within nodes n old at

    pub longer_kept : new.longer.entries ≡ old.longer.entries → (m : ℕ) (bytes : List ℕ) → longer (slice_set nodes n new) m bytes ≡ longer nodes m bytes
    longer_kept same m bytes = elim (eqb_tells m n) [
      | inl here ↦
          (rw here.1 (longer_at (slice_set nodes n new) n new bytes (set_same nodes n new inside) ∙ ap (found bytes) same ∙ sym (longer_at nodes n old bytes at)))
      | inr apart ↦ ap (option_and_then (λ (x : Node A). found bytes x.longer.entries)) (set_other nodes n new m apart.1)
    ]

    pub target_kept : new.targets.entries ≡ old.targets.entries → (m : ℕ) (bytes : List ℕ) → held_at (slice_set nodes n new) m bytes ≡ held_at nodes m bytes
    target_kept same m bytes = elim (eqb_tells m n) [
      | inl here ↦
          (rw here.1 (target_at (slice_set nodes n new) n new bytes (set_same nodes n new inside) ∙ ap (found bytes) same ∙ sym (target_at nodes n old bytes at)))
      | inr apart ↦ ap (option_and_then (λ (x : Node A). found bytes x.targets.entries)) (set_other nodes n new m apart.1)
    ]

    pub longer_set : (key : Bor (List ℕ)) (next : ℕ) → new.longer.entries ≡ insert_entry compare old.longer.entries key next
        → (m : ℕ) (bytes : List ℕ) → longer (slice_set nodes n new) m bytes ≡ (if m == n && bytes_eq bytes key.now then Some next else longer nodes m bytes)
    longer_set key next entries m bytes = elim (eqb_tells m n) [
      | inl here ↦
          (let same : (n == n) ≡ true = ap (λ k. k == n) (sym here.1) ∙ here.0 in
          rw (here.1, same) (longer_at (slice_set nodes n new) n new bytes (set_same nodes n new inside) ∙ ap (found bytes) entries ∙ inserted key next bytes old.longer.entries
          ∙ ap (λ (o : Option ℕ). if bytes_eq bytes key.now then Some next else o) (sym (longer_at nodes n old bytes at))))
      | inr apart ↦
          (rw apart.0 (ap (option_and_then (λ (x : Node A). found bytes x.longer.entries)) (set_other nodes n new m apart.1)))
    ]

    pub target_set : (key : Bor (List ℕ)) (value : Option Target) → new.targets.entries ≡ insert_entry compare old.targets.entries key value
        → (m : ℕ) (bytes : List ℕ) → held_at (slice_set nodes n new) m bytes ≡ (if m == n && bytes_eq bytes key.now then Some value else held_at nodes m bytes)
    target_set key value entries m bytes = elim (eqb_tells m n) [
      | inl here ↦
          (let same : (n == n) ≡ true = ap (λ k. k == n) (sym here.1) ∙ here.0 in
          rw (here.1, same) (target_at (slice_set nodes n new) n new bytes (set_same nodes n new inside) ∙ ap (found bytes) entries ∙ inserted key value bytes old.targets.entries
          ∙ ap (λ (o : Option (Option Target)). if bytes_eq bytes key.now then Some value else o) (sym (target_at nodes n old bytes at))))
      | inr apart ↦
          (rw apart.0 (ap (option_and_then (λ (x : Node A). found bytes x.targets.entries)) (set_other nodes n new m apart.1)))
    ]

  -- ---- one link more, to a new node
  node_inside : (nodes : List (Node A)) (n c : ℕ) (bytes : List ℕ) → longer nodes n bytes ≡ Some c → n < length nodes
  node_inside nodes n c bytes is = by (slice_get nodes n) refl is
    where
      by : (o : Option (Node A)) → slice_get nodes n ≡ o → option_and_then (λ (x : Node A). found bytes x.longer.entries) o ≡ Some c → n < length nodes
      by None at some = absurd cc
      by (Some x) at some = slice_get_within nodes n x at

  module _ (old new : List (Node A)) (node : ℕ) (bytes : List ℕ) (trie : IsTrie old) (inside : node < length old) (count : length new ≡ length old + 1)
      (links : (n : ℕ) (other : List ℕ) → longer new n other ≡ (if n == node && bytes_eq other bytes then Some (length old) else longer old n other)) where
    abbrev tail : ℕ → List ℕ
    tail k = if k == length old then bytes ++ trie.tail node else trie.tail k

    tail_below : (k : ℕ) → k < length old → tail k ≡ trie.tail k
    tail_below k lt = elim (eqb_tells k (length old)) [
      | inl same ↦ absurd (let is = same.1 in omega (arith, lt, is))
      | inr apart ↦ rw apart.0 refl
    ]

    linked : (n c : ℕ) (other : List ℕ) (b : Bool) → (n == node && bytes_eq other bytes) ≡ b → (if b then Some (length old) else longer old n other) ≡ Some c → (tail c ≡ other ++ tail n) × (c < length new)
    linked n c other true test is =
        let parts = and_parts _ _ test in
        let at : n ≡ node = eqb-true n node parts.0 in
        let same : other ≡ bytes = (bytes_eq-Decides other bytes).0 parts.1 in
        let next : length old ≡ c = same_Some _ _ is in
        let whole : (length old == length old) ≡ true = eqb-true-same (length old) in
        let here : tail (length old) ≡ bytes ++ trie.tail node = rw whole refl in (
          ap tail (sym next) ∙ here ∙ ap (λ (bs : List ℕ). bytes ++ bs) (sym (tail_below node inside)) ∙ ap (λ (bs : List ℕ). bs ++ tail node) (sym same) ∙ ap (λ (k : ℕ). other ++ tail k) (sym at),
          omega (arith, next, count),
        )
    linked n c other false test is =
        let link = trie.link n c other is in
        let below = link.1 in
        let from = node_inside old n c other is in (
          tail_below c below ∙ link.0 ∙ ap (λ (bs : List ℕ). other ++ bs) (sym (tail_below n from)),
          omega (arith, below, count),
        )

    pub grown_trie : IsTrie new
    grown_trie = record {
      tail = tail;
      root = tail_below 0 (omega (arith, inside)) ∙ trie.root;
      link = λ n c other is. linked n c other (n == node && bytes_eq other bytes) refl (sym (links n other) ∙ is);
    }

  -- ---- nodes remain when links are added
  module _ (old new : List (Node A)) (grows : Grows old new) (text : List ℕ) where
    pub node_kept : (k n : ℕ) → node_of old text k ≡ Some n → node_of new text k ≡ Some n
    node_kept zero n is = is
    node_kept (suc k) n is = by (node_kept k) (node_of old text k) refl is
      where
        by : ((m : ℕ) → node_of old text k ≡ Some m → node_of new text k ≡ Some m) → (o : Option ℕ) → node_of old text k ≡ o → option_and_then (λ m. longer old m (block text k)) o ≡ Some n → node_of new text (suc k) ≡ Some n
        by below None at some = absurd cc
        by below (Some m) at some = ap (option_and_then (λ m. longer new m (block text k))) (below m at) ∙ grows.kept m n (block text k) some

    node_or_new : (k n : ℕ) → node_of new text k ≡ Some n → (node_of old text k ≡ Some n) ⊎ (length old ≤ n)
    node_or_new zero n is = inl is
    node_or_new (suc k) n is = by (node_or_new k) (node_of new text k) refl is
      where
        by : ((m : ℕ) → node_of new text k ≡ Some m → (node_of old text k ≡ Some m) ⊎ (length old ≤ m)) → (o : Option ℕ) → node_of new text k ≡ o → option_and_then (λ m. longer new m (block text k)) o ≡ Some n → (node_of old text (suc k) ≡ Some n) ⊎ (length old ≤ n)
        by below None at some = absurd cc
        by below (Some m) at some = elim (grows.fresh m n (block text k) some) [
          | inl link ↦ elim (below m at) [
            | inl before ↦ inl (ap (option_and_then (λ m. longer old m (block text k))) before ∙ link)
            | inr after ↦ absurd (let inside = node_inside old m n (block text k) link in omega (arith, after, inside))
          ]
          | inr fresh ↦ inr fresh
        ]

    target_past : (n : ℕ) (bytes : List ℕ) → length old ≤ n → held_at old n bytes ≡ None
    target_past n bytes le = ap (option_and_then (λ (x : Node A). found bytes x.targets.entries)) (slice_get_past old n le)

    -- what is stored for a string remains
    pub held_kept : long_held new text ≡ long_held old text
    held_kept = by (node_of old text count) refl (node_of new text count) refl
      where
        count : ℕ
        count = length text / 256

        by : (o : Option ℕ) → node_of old text count ≡ o → (p : Option ℕ) → node_of new text count ≡ p
            → option_and_then (λ n. held_at new n (front text)) p ≡ option_and_then (λ n. held_at old n (front text)) o
        by (Some n) before p after =
            ap (option_and_then (λ n. held_at new n (front text))) (sym after ∙ node_kept count n before) ∙ grows.targets n (front text)
        by None before None after = refl
        by None before (Some n) after = elim (node_or_new count n after) [
          | inl is ↦ absurd (let e = sym before ∙ is in cc)
          | inr past ↦ grows.targets n (front text) ∙ target_past n (front text) past
        ]

  -- ---- the bytes that lead to a node
  module _ (nodes : List (Node A)) (trie : IsTrie nodes) where
    node_tail : (text : List ℕ) (k n : ℕ) → 256 * k ≤ length text → node_of nodes text k ≡ Some n → trie.tail n ≡ drop (length text - 256 * k) text
    node_tail text zero n le is =
        let none : length text - 256 * 0 ≡ length text = omega arith in
        ap trie.tail (sym (same_Some _ _ is)) ∙ trie.root ∙ sym (ap (λ (k : ℕ). drop k text) none ∙ drop_all (length text) text (omega arith))
    node_tail text (suc k) n le is = by (λ m. node_tail text k m (omega (arith, le))) (node_of nodes text k) refl is
      where
        by : ((m : ℕ) → node_of nodes text k ≡ Some m → trie.tail m ≡ drop (length text - 256 * k) text) → (o : Option ℕ) → node_of nodes text k ≡ o → option_and_then (λ m. longer nodes m (block text k)) o ≡ Some n → trie.tail n ≡ drop (length text - 256 * suc k) text
        by below None at some = absurd cc
        by below (Some m) at some =
            let more : 256 * suc k ≡ 256 * (k + 1) = omega arith in
            (trie.link m n (block text k) some).0 ∙ ap (λ (bs : List ℕ). block text k ++ bs) (below m at)
            ∙ blocks_left text k (omega (arith, le)) ∙ ap (λ (j : ℕ). drop (length text - j) text) (sym more)

    -- strings that lead to one node and begin alike are equal
    pub same_text : (a b : List ℕ) (n : ℕ) → node_of nodes a (length a / 256) ≡ Some n → node_of nodes b (length b / 256) ≡ Some n → front a ≡ front b → a ≡ b
    same_text a b n at_a at_b fronts =
        sym (take-append-drop (length a % 256) a) ∙ ap (λ (bs : List ℕ). bs ++ drop (length a % 256) a) fronts
        ∙ ap (λ (bs : List ℕ). front b ++ bs) (sym (last a at_a) ∙ last b at_b) ∙ take-append-drop (length b % 256) b
      where
        last : (text : List ℕ) → node_of nodes text (length text / 256) ≡ Some n → trie.tail n ≡ drop (length text % 256) text
        last text at =
            let parts = div-add-mod (length text) 256 in
            let before : length text - 256 * (length text / 256) ≡ length text % 256 = omega (arith, parts) in
            node_tail text (length text / 256) n (omega (arith, parts)) at ∙ ap (λ (k : ℕ). drop k text) before

  -- ---- growth after growth
  pub grows_on : (first second third : List (Node A)) → Grows first second → Grows second third → Grows first third
  grows_on first second third a b =
      let more = a.count in
      let most = b.count in
      record {
        count = omega (arith, more, most);
        kept = λ n c bytes is. b.kept n c bytes (a.kept n c bytes is);
        fresh = λ n c bytes is. elim (b.fresh n c bytes is) [
          | inl before ↦ a.fresh n c bytes before
          | inr new ↦ inr (omega (arith, more, new))
        ];
        targets = λ n bytes. b.targets n bytes ∙ a.targets n bytes;
      }

  pub node_below : (nodes : List (Node A)) → IsTrie nodes → 0 < length nodes → (text : List ℕ) (k n : ℕ) → node_of nodes text k ≡ Some n → n < length nodes
  node_below nodes trie some text zero n is = let none : 0 ≡ n = same_Some _ _ is in omega (arith, some, none)
  node_below nodes trie some text (suc k) n is = by (node_of nodes text k) refl is
    where
      by : (o : Option ℕ) → node_of nodes text k ≡ o → option_and_then (λ m. longer nodes m (block text k)) o ≡ Some n → n < length nodes
      by None at there = absurd cc
      by (Some m) at there = (trie.link m n (block text k) there).1

  -- ---- a path with one node more
  pub leads_on : (old new : List (Node A)) → Grows old new → (text path : List ℕ) (next : ℕ) → 256 * (length path + 1) ≤ length text → Leads old text path
      → longer new (get_or (0 ∷ path) (length path) 0) (block text (length path)) ≡ Some next → Leads new text (path ++ next ∷ [])
  leads_on old new grows text path next room leads there k le fits = elim (cases_lt (length path) k) [
    | inr before ↦
        (node_kept old new grows text k (get_or (0 ∷ path) k 0) (leads k before fits) ∙ ap (λ (n : ℕ). Some n) (entry_before path (next ∷ []) k before))
    | inl last ↦
        (let size : length (path ++ next ∷ []) ≡ length path + 1 = length-append path (next ∷ []) in
        let here : k ≡ length path + 1 = omega (arith, le, last, size) in
        ap (node_of new text) here ∙ node_after new text (length path)
        ∙ ap (option_and_then (λ n. longer new n (block text (length path)))) (node_kept old new grows text (length path) (get_or (0 ∷ path) (length path) 0) (leads (length path) (omega arith) (omega (arith, room))))
        ∙ there ∙ ap (λ (n : ℕ). Some n) (sym (ap (λ (j : ℕ). get_or (0 ∷ (path ++ next ∷ [])) j 0) here ∙ entry_last path next)))
  ]

  -- ---- a target more
  module _ (old new : List (Node A)) (links : (n : ℕ) (bytes : List ℕ) → longer new n bytes ≡ longer old n bytes) where
    pub node_same : (text : List ℕ) (k : ℕ) → node_of new text k ≡ node_of old text k
    node_same text zero = refl
    node_same text (suc k) = ap (option_and_then (λ n. longer new n (block text k))) (node_same text k) ∙ by (node_of old text k)
      where
        by : (o : Option ℕ) → option_and_then (λ n. longer new n (block text k)) o ≡ option_and_then (λ n. longer old n (block text k)) o
        by None = refl
        by (Some n) = links n (block text k)

    module _ (trie : IsTrie old) (node : ℕ) (text : List ℕ) (value : Option Target) (at : node_of old text (length text / 256) ≡ Some node)
        (targets : (n : ℕ) (bytes : List ℕ) → held_at new n bytes ≡ (if n == node && bytes_eq bytes (front text) then Some value else held_at old n bytes)) where
      abbrev Sets : List ℕ → Option ℕ → Type 0
      Sets other o = option_and_then (λ n. held_at new n (front other)) o ≡ (if bytes_eq other text then Some value else option_and_then (λ n. held_at old n (front other)) o)

      set_at : (other : List ℕ) (n : ℕ) → node_of old other (length other / 256) ≡ Some n → (b : Bool) → (n == node && bytes_eq (front other) (front text)) ≡ b → (c : Bool) → bytes_eq other text ≡ c → Sets other (Some n)
      set_at other n here true is true same = targets n (front other) ∙ rw (is, same) refl
      set_at other n here false is false same = targets n (front other) ∙ rw (is, same) refl
      set_at other n here true is false differs =
          let parts = and_parts _ _ is in
          let whole : other ≡ text =
          same_text old trie other text node (here ∙ ap (λ (k : ℕ). Some k) (eqb-true n node parts.0)) at ((bytes_eq-Decides (front other) (front text)).0 parts.1) in
          absurd (true≢false (sym ((bytes_eq-Decides other text).1 whole) ∙ differs))
      set_at other n here false is true same =
          let whole : other ≡ text = (bytes_eq-Decides other text).0 same in
          let node_is : node ≡ n = same_Some _ _ (sym at ∙ ap (λ (t : List ℕ). node_of old t (length t / 256)) (sym whole) ∙ here) in
          let first : (n == node) ≡ true = ap (λ (k : ℕ). n == k) node_is ∙ eqb-true-same n in
          let second : bytes_eq (front other) (front text) ≡ true = (bytes_eq-Decides (front other) (front text)).1 (ap front whole) in
          absurd (true≢false (sym (rw (first, second) refl) ∙ is))

      pub held_set : (other : List ℕ) → long_held new other ≡ (if bytes_eq other text then Some value else long_held old other)
      held_set other = ap (option_and_then (λ n. held_at new n (front other))) (node_same other (length other / 256)) ∙ by (node_of old other (length other / 256)) refl
        where
          by : (o : Option ℕ) → node_of old other (length other / 256) ≡ o → Sets other o
          by (Some n) here = set_at other n here (n == node && bytes_eq (front other) (front text)) refl (bytes_eq other text) refl
          by None none = elim (cases_Bool (bytes_eq other text)) [
            | inl same ↦
                (let whole : other ≡ text = (bytes_eq-Decides other text).0 same in
                absurd (let e = sym none ∙ ap (λ (t : List ℕ). node_of old t (length t / 256)) whole ∙ at in cc))
            | inr differs ↦ rw differs refl
          ]
