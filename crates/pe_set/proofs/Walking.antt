-- A search and its path: where it was after each hop, and what follows for its end.
use Rattle.std.proofs.Common.{◌≡◌, ◌∙◌, ◌<◌, ◌+◌, ◌-◌, ◌≤◌, ◌++◌, ℕ, suc, List, [], ◌∷◌, length, Some, refl, sym, ap, arith, inl, inr, get_or}
use Rattle.std.specs.Prelude.{option_map, slice_get}
use Rattle.std.proofs.lemmas.Bool.{cases_lt}
use Rattle.std.proofs.lemmas.Option.{same_Some, slice_get_within, slice_get-get_or}
use Rattle.std.proofs.lemmas.List.{length-append}
use Rattle.pe_tables.specs.Key.{Key, Ordinal, Name, Forward}
use Rattle.pe_set.specs.Set.{Module, named, forwarded_name}
use Rattle.pe_set.specs.Search.{target_in, from_target, resolve_in, stand_at, stands, steps, pairs_of, resolve}
use Rattle.pe_set.specs.SearchEnds.{EndsFrom}
use Rattle.pe_set.specs.StandView.{Stand, stand_of}
use Rattle.pe_set.specs.PathView.{AreApart, LeadsTo}
use Rattle.pe_set.specs.declared.search.Resolution.{Resolution}
use Rattle.pe_set.specs.declared.search.Resolution.TheVariants.{Endless}
use Rattle.pe_set.proofs.Cycles.{number_of, steps_add, resolve_ended}
use Rattle.pe_set.proofs.Pigeons.{pigeons}
use Rattle.pe_set.proofs.Pushed.{of_pushed}
use Rattle.pe_set.proofs.PairNumbers.{pair_number, number_in, number_same}
use Rattle.pe_set.proofs.Returning.{IsReturn, return_is_cycle, return_never}
use Rattle.pe_set.proofs.Searching.{resolve_hop, stand_step}

-- a place is that of only one image and key
pub one_stand : (p q : ℕ × Key) → stand_of p ≡ stand_of q → p ≡ q
one_stand (i, Ordinal n) (j, Ordinal m) same =
    let number : suc n ≡ suc m = ap (λ (at : Stand). at.1) same in
    ap (λ (k : ℕ). (k, Ordinal n)) (ap (λ (at : Stand). at.0) same) ∙ ap (λ (k : ℕ). (j, Ordinal k)) (let is : n ≡ m = omega (arith, number) in is)
one_stand (i, Ordinal n) (j, Name text) same = let number : suc n ≡ 0 = ap (λ (at : Stand). at.1) same in absurd (omega (arith, number))
one_stand (i, Name text) (j, Ordinal n) same = let number : 0 ≡ suc n = ap (λ (at : Stand). at.1) same in absurd (omega (arith, number))
one_stand (i, Name text) (j, Name other) same = ap (λ (k : ℕ). (k, Name text)) (ap (λ (at : Stand). at.0) same) ∙ ap (λ (t : List ℕ). (j, Name t)) (ap (λ (at : Stand). at.3) same)

-- ---- where a search was after so many hops: at a forwarder
abbrev pub Stood : List Module → List ℕ → Key → ℕ → Stand → Type 0
Stood s name key i at = (p : ℕ × Key) × (at ≡ stand_of p) × (stands s name key i ≡ Some p) × (to : List ℕ) × (next : Key) × (target_in s p.1 p.0 ≡ Some (Forward to next))

-- a search from there ends as one from a name and a key does
abbrev pub Leads : List Module → List ℕ → Key → Stand → Type 0
Leads s name key at = (p : ℕ × Key) × (at ≡ stand_of p) × ((n : ℕ) (end : Resolution) → resolve_in n s name key ≡ Some end → EndsFrom s end p)

-- a search from a name and a key has passed the places of a path and is at another name and key
pub record Walked (s : List Module) (from : List ℕ) (wanted : Key) (path : List Stand) (name : List ℕ) (key : Key) : Type 0 where
  pub stood : (i : ℕ) (at : Stand) → slice_get path i ≡ Some at → Stood s from wanted i at
  pub here : stands s from wanted (length path) ≡ stand_at s name key
  pub comes : (n : ℕ) (end : Resolution) → resolve_in n s name key ≡ Some end → (m : ℕ) × (resolve_in m s from wanted ≡ Some end)
  pub leads : (i : ℕ) (at : Stand) → slice_get path i ≡ Some at → Leads s name key at

module _ (s : List Module) (from : List ℕ) (wanted : Key) where
  pub walk_begins : Walked s from wanted [] from wanted
  walk_begins = record {
    stood = λ i at is. absurd cc;
    here = refl;
    comes = λ n end is. (n, is);
    leads = λ i at is. absurd cc;
  }

  module _ (path : List Stand) (name : List ℕ) (key : Key) (walked : Walked s from wanted path name key) where
    module _ (i : ℕ) (named_so : named s name ≡ Some i) where
      stands_here : stands s from wanted (length path) ≡ Some (i, key)
      stands_here = walked.here ∙ ap (option_map (λ i. (i, key))) named_so

      -- one hop more
      module _ (to : List ℕ) (next : Key) (on : target_in s key i ≡ Some (Forward to next)) where
        abbrev longer : List Stand
        longer = path ++ stand_of (i, key) ∷ []

        stood_on : (k : ℕ) (at : Stand) → slice_get longer k ≡ Some at → Stood s from wanted k at
        stood_on k at is = elim (of_pushed path (stand_of (i, key)) at k is) [
          | inl early ↦ walked.stood k at early.1
          | inr last ↦ ((i, key), last.1, ap (stands s from wanted) last.0 ∙ stands_here, to, next, on)
        ]

        leads_on : (k : ℕ) (at : Stand) → slice_get longer k ≡ Some at → Leads s (forwarded_name to) next at
        leads_on k at is = elim (of_pushed path (stand_of (i, key)) at k is) [
          | inl early ↦ (let led = walked.leads k at early.1 in (led.0, led.1, λ n end is. led.2 (suc n) end (resolve_hop s name key n i named_so to next on ∙ is)))
          | inr last ↦ ((i, key), last.1, λ n end is. (n, ap (from_target (resolve_in n s) i) on ∙ is))
        ]

        pub walk_on : Walked s from wanted longer (forwarded_name to) next
        walk_on = record {
          stood = stood_on;
          here =
              let count : length longer ≡ length path + 1 = length-append path (stand_of (i, key) ∷ []) in
              ap (stands s from wanted) count ∙ steps_add s (length path) 1 (stand_at s from wanted) ∙ ap (steps s 1) walked.here ∙ stand_step s name key 0 i named_so to next on;
          comes = λ n end is. walked.comes (suc n) end (resolve_hop s name key n i named_so to next on ∙ is);
          leads = leads_on;
        }

    -- where it ends
    pub walk_ends : (n : ℕ) (end : Resolution) → resolve_in n s name key ≡ Some end → end ≡ resolve s from wanted
    walk_ends n end is = let came = walked.comes n end is in sym (resolve_ended s from wanted came.0 end came.1)

    pub walk_leads : (n : ℕ) (end : Resolution) → resolve_in n s name key ≡ Some end → LeadsTo s from wanted end path
    walk_leads n end is = λ m _ k at got.
        let led = walked.leads k at got in
        (led.0, led.1, led.2 n end is)

    -- ---- its places are pairs of the set, and no more than these
    module _ (apart : AreApart path) where
      stood_at : (i : ℕ) → i < length path → Stood s from wanted i (get_or path i (0, 0, 0, []))
      stood_at i lt = walked.stood i (get_or path i (0, 0, 0, [])) (slice_get-get_or path i (0, 0, 0, []) lt)

      abbrev pair_at : ℕ → ℕ
      pair_at i = number_of s (stands s from wanted i)

      pair_is : (i : ℕ) (lt : i < length path) → pair_at i ≡ pair_number s (stood_at i lt).0.0 (stood_at i lt).0.1
      pair_is i lt = ap (number_of s) (stood_at i lt).2

      pair_in : (i : ℕ) → i < length path → pair_at i < pairs_of s
      pair_in i lt =
          let st = stood_at i lt in
          let e = pair_is i lt in
          let inside = number_in s st.0.0 st.0.1 (Forward st.3 st.4) st.5 in
          omega (arith, e, inside)

      pair_once : (a b : ℕ) → a < length path → b < length path → pair_at a ≡ pair_at b → a ≡ b
      pair_once a b lt_a lt_b same =
          let p = stood_at a lt_a in
          let q = stood_at b lt_b in
          let both = number_same s p.0.0 q.0.0 p.0.1 q.0.1 (Forward p.3 p.4) (Forward q.3 q.4) p.5 q.5 (sym (pair_is a lt_a) ∙ same ∙ pair_is b lt_b) in
          let one : p.0 ≡ q.0 = ap (λ (i : ℕ). (i, p.0.1)) both.0 ∙ ap (λ (k : Key). (q.0.0, k)) both.1 in
          let there = slice_get-get_or path b (0, 0, 0, []) lt_b ∙ ap (λ (at : Stand). Some at) (q.1 ∙ ap stand_of (sym one) ∙ sym p.1) in
          apart a b (get_or path a (0, 0, 0, [])) (slice_get-get_or path a (0, 0, 0, []) lt_a) there

      pub walk_fits : length path ≤ pairs_of s
      walk_fits = elim (cases_lt (pairs_of s) (length path)) [
        | inr few ↦ few
        | inl many ↦
            (let twice = pigeons (pairs_of s) pair_at (λ n le. pair_in n (omega (arith, le, many))) in
            let lt = twice.2 in
            let le = twice.3 in
            let one = pair_once twice.0 twice.1 (omega (arith, lt, le, many)) (omega (arith, le, many)) twice.4 in
            absurd (omega (arith, lt, one)))
      ]

      -- ---- a search that comes back to a place of its path runs in a cycle
      module _ (i : ℕ) (named_so : named s name ≡ Some i) (first : ℕ) (before : slice_get path first ≡ Some (stand_of (i, key))) where
        comes_to : (k : ℕ) (at : Stand) → slice_get path k ≡ Some at → stands s from wanted k ≡ Some (i, key) → at ≡ stand_of (i, key)
        comes_to k at is there =
            let st = walked.stood k at is in
            st.1 ∙ ap stand_of (same_Some st.0 (i, key) (sym st.2 ∙ there))

        stood_first : stands s from wanted first ≡ Some (i, key)
        stood_first =
            let st = walked.stood first (stand_of (i, key)) before in
            st.2 ∙ ap (λ (p : ℕ × Key). Some p) (sym (one_stand (i, key) st.0 st.1))

        not_between : (n : ℕ) → 0 < n → n < length path - first → stands s from wanted (first + n) ≡ Some (i, key) → ⊥
        not_between n above lt there =
            let k = first + n in
            let inside : first + n < length path = omega (arith, lt) in
            let at = get_or path k (0, 0, 0, []) in
            let is = slice_get-get_or path k (0, 0, 0, []) inside in
            let one = apart first k (stand_of (i, key)) before (is ∙ ap (λ (at : Stand). Some at) (comes_to k at is there)) in
            omega (arith, one, above)

        cycle_here : IsReturn s from wanted first (length path - first) (i, key)
        cycle_here =
            let lt = slice_get_within path first (stand_of (i, key)) before in
            let all : first + (length path - first) ≡ length path = omega (arith, lt) in
            record {
              above = omega (arith, lt);
              there = stood_first;
              again = ap (stands s from wanted) all ∙ stands_here i named_so;
              between = not_between;
            }

        pub walk_cycles : Endless (length path - first) ≡ resolve s from wanted
        walk_cycles = return_is_cycle s from wanted first (length path - first) (i, key) cycle_here

        pub cycle_leads : LeadsTo s from wanted (Endless (length path - first)) path
        cycle_leads = λ n is. let never = return_never s from wanted first (length path - first) (i, key) cycle_here n in absurd cc
