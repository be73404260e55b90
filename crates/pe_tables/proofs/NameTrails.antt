-- Trails: the nodes to which the last blocks of a string lead.
use Rattle.std.proofs.Common.{◌≡◌, ℕ, zero, suc, ◌+◌, ◌*◌, ◌/◌, ◌-◌, ◌≤◌, ◌<◌, ◌⊎◌, List, [], ◌∷◌, ◌++◌, length, get_or, Option, None, refl, sym, ap, subst, ◌∙◌, arith, inl, inr}
use Rattle.std.specs.Prelude.{option_and_then, max}
use Rattle.std.proofs.lemmas.Bool.{cases_lt}
use Rattle.std.proofs.lemmas.List.{length-append}
use Rattle.std.proofs.Math.Nat.{div-add-mod}
use Rattle.pe_tables.specs.Forwarders.{part_before}
use Rattle.pe_tables.specs.LongTexts.{block, longer, node_of}
use Rattle.pe_tables.specs.NameTrail.{node_after, Follows, IsTrail}
use Rattle.pe_tables.specs.declared.long_texts.Node.{Node}
use Rattle.pe_tables.proofs.LongPaths.{same_node}
use Rattle.pe_tables.proofs.LongTexts as texts

-- the nodes of a trail that is extended
pub node_before : (trail more : List (Option ℕ)) (k : ℕ) → k ≤ length trail → node_after trail k ≡ node_after (trail ++ more) k
node_before trail more zero le = refl
node_before [] more (suc k) le = absurd (omega (arith, le))
node_before (n ∷ trail) more (suc zero) le = refl
node_before (n ∷ trail) more (suc (suc k)) le = node_before trail more (suc k) (omega (arith, le))

node_last : (trail : List (Option ℕ)) (next : Option ℕ) → node_after (trail ++ next ∷ []) (length trail + 1) ≡ next
node_last trail next =
    let e : length trail + 1 ≡ suc (length trail) = omega arith in
    ap (node_after (trail ++ next ∷ [])) e ∙ last trail
  where
    last : (trail : List (Option ℕ)) → get_or (trail ++ next ∷ []) (length trail) None ≡ next
    last [] = refl
    last (n ∷ trail) = last trail

-- past its end there are none
node_past : (trail : List (Option ℕ)) (k : ℕ) → length trail < k → node_after trail k ≡ None
node_past trail zero lt = absurd (omega (arith, lt))
node_past trail (suc k) lt = past trail k (omega (arith, lt))
  where
    past : (trail : List (Option ℕ)) (k : ℕ) → length trail ≤ k → get_or trail k None ≡ None
    past [] k le = refl
    past (n ∷ trail) zero le = absurd (omega (arith, le))
    past (n ∷ trail) (suc k) le = past trail k (omega (arith, le))

module _ {A : Type 0} where
  -- one block more
  pub follows_on : (nodes : List (Node A)) (text : List ℕ) (trail : List (Option ℕ)) (next : Option ℕ) → 256 * (length trail + 1) ≤ length text → Follows nodes text trail
      → next ≡ option_and_then (λ n. longer nodes n (block text (length trail))) (node_after trail (length trail)) → Follows nodes text (trail ++ next ∷ [])
  follows_on nodes text trail next room follows is k le fits = elim (cases_lt (length trail) k) [
    | inr before ↦ follows k before fits ∙ node_before trail (next ∷ []) k before
    | inl last ↦
        (let size : length (trail ++ next ∷ []) ≡ length trail + 1 = length-append trail (next ∷ []) in
        let here : k ≡ length trail + 1 = omega (arith, le, last, size) in
        ap (node_of nodes text) here ∙ texts.node_after nodes text (length trail)
        ∙ ap (option_and_then (λ n. longer nodes n (block text (length trail)))) (follows (length trail) (omega arith) (omega (arith, room)))
        ∙ sym is ∙ sym (ap (node_after (trail ++ next ∷ [])) here ∙ node_last trail next))
  ]

  -- a string follows the trail of its end
  pub follows_trail : (nodes : List (Node A)) (file : List ℕ) (end : ℕ) (text : List ℕ) (trail : List (Option ℕ)) → length text ≤ end → text ≡ part_before file end (length text)
      → IsTrail nodes file end trail → Follows nodes text trail
  follows_trail nodes file end text trail inside is along = λ k le fits. same_node nodes file end text k inside is fits ∙ (along k le).1

  -- the node to which all blocks of a string lead, by a trail extended to them or to where there is no node
  pub node_reached : (nodes : List (Node A)) (file : List ℕ) (end : ℕ) (text : List ℕ) (old new : List (Option ℕ)) → length text ≤ end → text ≡ part_before file end (length text) → IsTrail nodes file end old
      → (Follows nodes text old → Follows nodes text new) → (length text / 256 ≤ length new) ⊎ (node_after new (length new) ≡ None) → node_of nodes text (length text / 256) ≡ node_after new (length text / 256)
  node_reached nodes file end text old new inside is along goes whole =
      let parts = div-add-mod (length text) 256 in
      let follows = goes (follows_trail nodes file end text old inside is along) in
      let all = λ (long : length text / 256 ≤ length new). follows (length text / 256) long (omega (arith, parts)) in
      elim whole [
        | inl long ↦ all long
        | inr none ↦ elim (cases_lt (length new) (length text / 256)) [
          | inr long ↦ all long
          | inl short ↦
              (let ends : node_of nodes text (length new) ≡ None = follows (length new) (omega arith) (omega (arith, parts, short)) ∙ none in
              let rest : (length text / 256 - length new) + length new ≡ length text / 256 = omega (arith, short) in
              ap (node_of nodes text) (sym rest) ∙ texts.none_on nodes text (length new) (length text / 256 - length new) ends ∙ sym (node_past new (length text / 256) short))
        ]
      ]

  -- a trail that is extended along a string
  trail_more : (nodes : List (Node A)) (file : List ℕ) (end : ℕ) (text : List ℕ) (old more : List (Option ℕ)) → length text ≤ end → text ≡ part_before file end (length text) → IsTrail nodes file end old
      → Follows nodes text (old ++ more) → length (old ++ more) ≤ max (length old) (length text / 256) → IsTrail nodes file end (old ++ more)
  trail_more nodes file end text old more inside is along follows needed = λ k le. elim (cases_lt (length old) k) [
    | inr before ↦ ((along k before).0, (along k before).1 ∙ node_before old more k before)
    | inl behind ↦
        (let parts = div-add-mod (length text) 256 in
        let fits : 256 * k ≤ length text = omega (arith, behind, le, needed, parts) in
        (omega (arith, fits, inside), sym (same_node nodes file end text k inside is fits) ∙ follows k le fits))
  ]

  pub trail_on : (nodes : List (Node A)) (file : List ℕ) (end : ℕ) (text : List ℕ) (old new : List (Option ℕ)) → length text ≤ end → text ≡ part_before file end (length text) → IsTrail nodes file end old
      → (Follows nodes text old → Follows nodes text new) → ((more : List (Option ℕ)) × (new ≡ old ++ more)) → length new ≤ max (length old) (length text / 256) → IsTrail nodes file end new
  trail_on nodes file end text old new inside is along goes more needed =
      let all = more.1 in
      let follows = goes (follows_trail nodes file end text old inside is along) in
      subst (IsTrail nodes file end) (sym all)
      (trail_more nodes file end text old more.0 inside is along (subst (Follows nodes text) all follows) (subst (λ (ns : List (Option ℕ)). length ns ≤ max (length old) (length text / 256)) all needed))

  -- a trail of no string
  pub no_trail : (nodes : List (Node A)) (file : List ℕ) (end : ℕ) → IsTrail nodes file end []
  no_trail nodes file end zero le = (omega arith, refl)
  no_trail nodes file end (suc k) le = absurd (omega (arith, le))
