-- The names of an export table keep the order of the name pointer table.
use Rattle.std.proofs.Common.{◌≡◌, ◌≢◌, ℕ, zero, suc, ◌+◌, ◌<◌, ◌≤◌, Bool, true, false, List, [], ◌∷◌, ◌++◌, Option, Some, None, refl, sym, ap, subst, ◌∙◌, append-nil, arith, inl, inr}
use Rattle.std.specs.Prelude.{All, AllPairs, option_map, option_to_list, is_some}
use Rattle.std.specs.List.{filter_map, find, range_with_len}
use Rattle.std.specs.Str.{bytes_eq}
use Rattle.std.proofs.lemmas.Bool.{cases_Bool, cases_lt, true≢false}
use Rattle.std.proofs.lemmas.Option.{none-some, same_Some}
use Rattle.std.proofs.lemmas.List.Elements.{All-nil, All-push, filter_map-append}
use Rattle.std.proofs.lemmas.List.Quantifiers.{all_pairs_push}
use Rattle.std.proofs.lemmas.Slice.Eq.{bytes_eq-Decides}
use Rattle.pe_head.specs.declared.directory.Directory.{Directory}
use Rattle.pe_layout.specs.Image.{LaidOut}
use Rattle.pe_tables.specs.Key.{Target}
use Rattle.pe_tables.specs.Exports.{table_at, entry, target_of, name_text, name_entry, named, first_of_each, by_name, exports_at}
use Rattle.pe_tables.specs.ExportPlaces.{IsFirstName, StandsBefore}
use Rattle.pe_tables.specs.declared.export_table.Table.{Table}
use Rattle.pe_tables.proofs.Each.{given-push}
use Rattle.pe_tables.proofs.Entries.{filter_map-cons}
use Rattle.pe_tables.proofs.Names.{Named, has, behind, first-push, find-other}
use Rattle.pe_ranges.proofs.Pairs.{AllPairs-nil}

-- a search finds a name that is last
found_last : (ns : List Named) (n : Named) (text : List ℕ) → bytes_eq text n.0 ≡ true → is_some (find (has text) (ns ++ n ∷ [])) ≡ true
found_last [] n text same = rw same refl
found_last (m ∷ ns) n text same = here (found_last ns n text same) (bytes_eq text m.0) refl
  where
    here : is_some (find (has text) (ns ++ n ∷ [])) ≡ true → (b : Bool) → bytes_eq text m.0 ≡ b → is_some (find (has text) (m ∷ ns ++ n ∷ [])) ≡ true
    here later true is = rw is refl
    here later false is = rw is later

module _ (i : LaidOut) (d : Directory) (t : Table) where
  abbrev Exported : Type 0
  Exported = List ℕ × Target

  -- the first n names that are there
  abbrev first_names : ℕ → List Named
  first_names n = filter_map (named i t) (range_with_len 0 n)

  -- those that export something, each name once, where it first occurs
  abbrev listed : ℕ → List Exported
  listed n = filter_map (by_name i d t) (first_of_each (first_names n))

  -- a name that a search among the first n names does not find is none of them
  abbrev IsNew : ℕ → List ℕ → Type 0
  IsNew n text = (j : ℕ) → j < n → name_text i t j ≢ Some text

  stays_new : (n : ℕ) (text : List ℕ) → IsNew n text → name_text i t n ≢ Some text → IsNew (n + 1) text
  stays_new n text before here j lt = elim (cases_lt j n) [
    | inl below ↦ before j below
    | inr above ↦ (let e : j ≡ n = omega arith in λ is. here (ap (name_text i t) (sym e) ∙ is))
  ]

  pushed : (n : ℕ) (o : Option (List ℕ)) → name_text i t n ≡ o → first_names (n + 1) ≡ first_names n ++ option_to_list (option_map (λ text. (text, name_entry i t n)) o)
  pushed n o is = given-push (named i t) n ∙ ap (λ (o : Option (List ℕ)). first_names n ++ option_to_list (option_map (λ text. (text, name_entry i t n)) o)) is

  other_text : (text other : List ℕ) → bytes_eq text other ≡ false → Some other ≢ Some text
  other_text text other differ same = true≢false (sym ((bytes_eq-Decides text other).1 (sym (same_Some other text same))) ∙ differ)

  new_text : (n : ℕ) (text : List ℕ) → is_some (find (has text) (first_names n)) ≡ false → IsNew n text
  new_text zero text none = λ j lt. absurd (omega arith)
  new_text (suc n) text none = by (name_text i t n) refl (new_text n text)
    where
      by : (o : Option (List ℕ)) → name_text i t n ≡ o → (is_some (find (has text) (first_names n)) ≡ false → IsNew n text) → IsNew (suc n) text
      by None is before =
          let next : suc n ≡ n + 1 = omega arith in
          let same : first_names (suc n) ≡ first_names n = ap first_names next ∙ pushed n None is ∙ append-nil (first_names n) in
          let old : is_some (find (has text) (first_names n)) ≡ false = ap (λ (ns : List Named). is_some (find (has text) ns)) (sym same) ∙ none in
          subst (λ (m : ℕ). IsNew m text) (sym next) (stays_new n text (before old) (λ here. none-some text (sym is ∙ here)))
      by (Some other) is before =
          let next : suc n ≡ n + 1 = omega arith in
          let more : first_names (suc n) ≡ first_names n ++ (other, name_entry i t n) ∷ [] = ap first_names next ∙ pushed n (Some other) is in
          elim (cases_Bool (bytes_eq text other)) [
            | inl same ↦
                (let held : is_some (find (has text) (first_names n ++ (other, name_entry i t n) ∷ [])) ≡ true = found_last (first_names n) (other, name_entry i t n) text same in
                absurd (true≢false (sym held ∙ ap (λ (ns : List Named). is_some (find (has text) ns)) (sym more) ∙ none)))
            | inr differ ↦
                (let old : is_some (find (has text) (first_names n)) ≡ false =
                ap is_some (sym (find-other (first_names n) (other, name_entry i t n) text differ)) ∙ ap (λ (ns : List Named). is_some (find (has text) ns)) (sym more) ∙ none in
                subst (λ (m : ℕ). IsNew m text) (sym next) (stays_new n text (before old) (λ here. other_text text other differ (sym is ∙ here))))
          ]

  -- of the first n names these are listed, in their order
  record IsListed (n : ℕ) (exports : List Exported) : Type 0 where
    pub places : All (λ (p : Exported). (j : ℕ) × (j < n) × IsFirstName i t p.0 j) exports
    pub order : AllPairs (λ (p later : Exported). StandsBefore i t p.0 later.0) exports

  still : (n : ℕ) (exports : List Exported) → IsListed n exports → IsListed (n + 1) exports
  still n exports l = record { places = λ k p lt. (let w = l.places k p lt in let below = w.1 in (w.0, omega arith, w.2)); order = l.order }

  one_more : (n : ℕ) (exports : List Exported) (text : List ℕ) (target : Target) → IsListed n exports → IsFirstName i t text n → IsListed (n + 1) (exports ++ (text, target) ∷ [])
  one_more n exports text target l first =
      let l' = still n exports l in
      record {
        places = All-push (λ (p : Exported). (j : ℕ) × (j < n + 1) × IsFirstName i t p.0 j) exports (text, target) l'.places (n, omega arith, first);
        order = all_pairs_push (λ (p later : Exported). StandsBefore i t p.0 later.0) exports (text, target) l.order
            (λ k p lt. let w = l.places k p lt in (w.0, n, w.2, first, w.1));
      }

  with_target : (n : ℕ) (exports : List Exported) (text : List ℕ) (o : Option Target) → IsListed n exports → IsFirstName i t text n → IsListed (n + 1) (exports ++ option_to_list (option_map (λ target. (text, target)) o))
  with_target n exports text None l first = subst (IsListed (n + 1)) (sym (append-nil exports)) (still n exports l)
  with_target n exports text (Some target) l first = one_more n exports text target l first

  with_name : (n : ℕ) (text : List ℕ) (known : Bool) → n < t.name_count → name_text i t n ≡ Some text → is_some (find (has text) (first_names n)) ≡ known → IsListed n (listed n)
      → IsListed (n + 1) (filter_map (by_name i d t) (first_of_each (first_names n) ++ behind known (text, name_entry i t n)))
  with_name n text true lt is known l = subst (λ (ns : List Named). IsListed (n + 1) (filter_map (by_name i d t) ns)) (sym (append-nil (first_of_each (first_names n)))) (still n (listed n) l)
  with_name n text false lt is known l =
      let last : Named = (text, name_entry i t n) in
      let split : filter_map (by_name i d t) (first_of_each (first_names n) ++ last ∷ []) ≡ listed n ++ option_to_list (by_name i d t last) =
      filter_map-append (by_name i d t) (first_of_each (first_names n)) (last ∷ [])
      ∙ ap (λ (ps : List Exported). listed n ++ ps) (filter_map-cons (by_name i d t) last [] ∙ append-nil (option_to_list (by_name i d t last))) in
      subst (IsListed (n + 1)) (sym split)
      (with_target n (listed n) text (target_of i d (entry i t (name_entry i t n))) l (record { within = lt; has = is; first = new_text n text known }))

  all_listed : (n : ℕ) → n ≤ t.name_count → IsListed n (listed n)
  all_listed zero le = record { places = All-nil _; order = AllPairs-nil (λ (p later : Exported). StandsBefore i t p.0 later.0) }
  all_listed (suc n) le = by (name_text i t n) refl (all_listed n (omega arith))
    where
      by : (o : Option (List ℕ)) → name_text i t n ≡ o → IsListed n (listed n) → IsListed (suc n) (listed (suc n))
      by None is l =
          let next : n + 1 ≡ suc n = omega arith in
          let same : first_names n ≡ first_names (n + 1) = sym (pushed n None is ∙ append-nil (first_names n)) in
          subst (λ (m : ℕ). IsListed m (listed m)) next
          (subst (λ (ns : List Named). IsListed (n + 1) (filter_map (by_name i d t) (first_of_each ns))) same (still n (listed n) l))
      by (Some text) is l =
          let next : n + 1 ≡ suc n = omega arith in
          let last : Named = (text, name_entry i t n) in
          let more : first_of_each (first_names n) ++ behind (is_some (find (has text) (first_names n))) last ≡ first_of_each (first_names (n + 1)) =
          sym (ap first_of_each (pushed n (Some text) is) ∙ first-push (first_names n) last) in
          subst (λ (m : ℕ). IsListed m (listed m)) next
          (subst (λ (ns : List Named). IsListed (n + 1) (filter_map (by_name i d t) ns)) more (with_name n text (is_some (find (has text) (first_names n))) (omega arith) is refl l))

pub names-ordered : (i : LaidOut) (d : Directory) → AllPairs (λ (p later : List ℕ × Target). StandsBefore i (table_at i d.rva) p.0 later.0) (exports_at i (Some d)).names
names-ordered i d = (all_listed i d (table_at i d.rva) (table_at i d.rva).name_count (omega arith)).order
