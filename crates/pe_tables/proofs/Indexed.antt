-- An index of names, name by name.
use Rattle.std.proofs.Common.{◌≡◌, ℕ, Bool, true, false, List, [], ◌∷◌, ◌++◌, Option, Some, None, length, take, get_or, ◌+◌, ◌<◌, refl, sym, ap, subst, ◌∙◌, append-nil, inl, inr}
use Rattle.std.specs.Borrow.{Bor}
use Rattle.std.specs.Prelude.{map, option_map, option_and_then, option_to_list, is_some, if◌then◌else◌}
use Rattle.std.specs.List.{filter_map, find}
use Rattle.std.specs.Str.{bytes_eq}
use Rattle.std.proofs.lemmas.Bool.{cases_Bool}
use Rattle.std.proofs.lemmas.List.{map-append, take_more}
use Rattle.std.proofs.lemmas.List.Elements.{filter_map-append}
use Rattle.pe_tables.specs.Key.{Target, target_view}
use Rattle.pe_tables.specs.Exports.{first_of_each}
use Rattle.pe_tables.specs.ExportsView.{name_view}
use Rattle.pe_tables.specs.NameIndex.{held, export_view, Gains, Stays, Learns, IsIndexOf, IsSame, IsSearchable}
use Rattle.pe_tables.specs.declared.key.Target as code
use Rattle.pe_tables.specs.declared.exports.Name.{Name}
use Rattle.pe_tables.specs.declared.name_index.NameIndex.{NameIndex}
use Rattle.pe_tables.proofs.Entries.{filter_map-cons}
use Rattle.pe_tables.proofs.Names.{Named, has, behind, first-push, find-other, find-known, find-new, found_first}

some_map : {X Y : Type 0} (g : X → Y) (o : Option X) → is_some (option_map g o) ≡ is_some o
some_map g None = refl
some_map g (Some x) = refl

module _ {A : Type 0} (f : ℕ → Option Target) (base : ℕ) (ns : List Named) (old new : NameIndex A) (text : Bor (List ℕ)) (target : Option code.Target) (entry : ℕ) (is : option_map target_view target ≡ f entry) where
  abbrev export : Named → Option (List ℕ × Target)
  export n = option_map (λ target. (n.0, target)) (f n.1)

  abbrev numbered : Named → Option ℕ
  numbered n = option_map (λ target. base + n.1) (f n.1)

  abbrev name : Named
  name = (text.now, entry)

  abbrev view_held : Option (Option code.Target) → Option (Option Target)
  view_held = option_map (option_map target_view)

  abbrev Held : List ℕ → Type 0
  Held other = view_held (held new other) ≡ option_map (λ n. f n.1) (find (has other) (ns ++ name ∷ []))

  known_text : IsIndexOf f base ns old → (b : Bool) → is_some (held old text.now) ≡ b → is_some (find (has text.now) ns) ≡ b
  known_text indexed b known =
      sym (some_map (λ n. f n.1) (find (has text.now) ns)) ∙ ap (λ (o : Option (Option Target)). is_some o) (sym (indexed.targets text.now))
      ∙ some_map (option_map target_view) (held old text.now) ∙ known

  stays : IsIndexOf f base ns old → is_some (held old text.now) ≡ true → Stays old new → IsIndexOf f base (ns ++ name ∷ []) new
  stays indexed known same =
      let there = known_text indexed true known in
      record {
        exports =
            ap (map export_view) same.exports ∙ indexed.exports
            ∙ ap (filter_map export) (sym (append-nil (first_of_each ns)) ∙ ap (λ (b : Bool). first_of_each ns ++ behind b name) (sym there) ∙ sym (first-push ns name));
        ordinals =
            same.ordinals ∙ indexed.ordinals
            ∙ ap (filter_map numbered) (sym (append-nil (first_of_each ns)) ∙ ap (λ (b : Bool). first_of_each ns ++ behind b name) (sym there) ∙ sym (first-push ns name));
        targets = λ other.
            ap view_held (same.targets other) ∙ indexed.targets other
            ∙ ap (option_map (λ (n : Named). f n.1)) (sym (find-known ns name there other));
      }

  viewed : (o : Option code.Target) → map export_view (option_to_list (option_map (λ t. (text, t)) o)) ≡ option_to_list (option_map (λ target. (text.now, target)) (option_map target_view o))
  viewed None = refl
  viewed (Some t) = refl

  counted : (o : Option code.Target) → option_to_list (option_map (λ t. base + entry) o) ≡ option_to_list (option_map (λ target. base + entry) (option_map target_view o))
  counted None = refl
  counted (Some t) = refl

  held_now : Gains old new text (base + entry) target → IsIndexOf f base ns old → is_some (find (has text.now) ns) ≡ false → (other : List ℕ) → Held other
  held_now gains indexed new_text other = elim (cases_Bool (bytes_eq other text.now)) [
    | inl same ↦
        (let now : held new other ≡ Some target = gains.targets other ∙ (let e : (if bytes_eq other text.now then Some target else held old other) ≡ Some target = rw same refl in e) in
        ap view_held now ∙ ap (λ (o : Option Target). Some o) is ∙ ap (option_map (λ (n : Named). f n.1)) (sym (find-new ns name new_text other same)))
    | inr differs ↦
        (let now : held new other ≡ held old other = gains.targets other ∙ (let e : (if bytes_eq other text.now then Some target else held old other) ≡ held old other = rw differs refl in e) in
        ap view_held now ∙ indexed.targets other ∙ ap (option_map (λ (n : Named). f n.1)) (sym (find-other ns name other differs)))
  ]

  gains : IsIndexOf f base ns old → is_some (held old text.now) ≡ false → Gains old new text (base + entry) target → IsIndexOf f base (ns ++ name ∷ []) new
  gains indexed unknown more =
      let not_there = known_text indexed false unknown in
      record {
        exports =
            ap (map export_view) more.exports ∙ map-append export_view old.exports.items (option_to_list (option_map (λ t. (text, t)) target))
            ∙ ap (λ es. map export_view old.exports.items ++ es) (viewed target ∙ ap (λ (o : Option Target). option_to_list (option_map (λ target. (text.now, target)) o)) is)
            ∙ ap (λ es. es ++ option_to_list (export name)) indexed.exports
            ∙ ap (λ es. filter_map export (first_of_each ns) ++ es) (sym (filter_map-cons export name [] ∙ append-nil (option_to_list (export name))))
            ∙ sym (filter_map-append export (first_of_each ns) (name ∷ []))
            ∙ ap (filter_map export) (ap (λ (b : Bool). first_of_each ns ++ behind b name) (sym not_there) ∙ sym (first-push ns name));
        ordinals =
            more.ordinals ∙ ap (λ (es : List ℕ). old.ordinals.items ++ es) (counted target ∙ ap (λ (o : Option Target). option_to_list (option_map (λ target. base + entry) o)) is)
            ∙ ap (λ (es : List ℕ). es ++ option_to_list (numbered name)) indexed.ordinals
            ∙ ap (λ (es : List ℕ). filter_map numbered (first_of_each ns) ++ es) (sym (filter_map-cons numbered name [] ∙ append-nil (option_to_list (numbered name))))
            ∙ sym (filter_map-append numbered (first_of_each ns) (name ∷ []))
            ∙ ap (filter_map numbered) (ap (λ (b : Bool). first_of_each ns ++ behind b name) (sym not_there) ∙ sym (first-push ns name));
        targets = held_now more indexed not_there;
      }

  learns_by : (o : Option (Option code.Target)) → held old text.now ≡ o → Learns old new text (base + entry) target o → IsIndexOf f base ns old → IsIndexOf f base (ns ++ name ∷ []) new
  learns_by None was more indexed = gains indexed (ap (λ (o : Option (Option code.Target)). is_some o) was) more
  learns_by (Some t) was more indexed = stays indexed (ap (λ (o : Option (Option code.Target)). is_some o) was) more

  pub index-learns : Learns old new text (base + entry) target (held old text.now) → IsIndexOf f base ns old → IsIndexOf f base (ns ++ name ∷ []) new
  index-learns more indexed = learns_by (held old text.now) refl more indexed

and_then_map : {X Y : Type 0} (g : X → Option Y) (o : Option X) → option_and_then (λ (p : Option Y). p) (option_map g o) ≡ option_and_then g o
and_then_map g None = refl
and_then_map g (Some x) = refl

-- an index serves searches by name
pub searchable : {A : Type 0} (f : ℕ → Option Target) (base : ℕ) (ns : List Named) (index : NameIndex A) → IsIndexOf f base ns index → IsSearchable index
searchable f base ns index indexed = λ text.
    sym (and_then_map (option_map target_view) (held index text))
    ∙ ap (option_and_then (λ (p : Option Target). p)) (indexed.targets text)
    ∙ and_then_map (λ (n : Named). f n.1) (find (has text) ns)
    ∙ sym (found_first f text ns)
    ∙ ap (λ (es : List (List ℕ × Target)). option_map (λ p. p.1) (find (λ p. bytes_eq text p.0) es)) (sym indexed.exports)

-- the next name of a list
pub index-step : {A : Type 0} (f : ℕ → Option Target) (base : ℕ) (names : List Name) (k : ℕ) (d : Name) (old new : NameIndex A) (target : Option code.Target) → k < length names
    → option_map target_view target ≡ f (get_or names k d).entry → Learns old new (get_or names k d).text.bytes (base + (get_or names k d).entry) target (held old (get_or names k d).text.bytes.now)
    → IsIndexOf f base (map name_view (take k names)) old → IsIndexOf f base (map name_view (take (k + 1) names)) new
index-step f base names k d old new target lt is learns indexed =
    let name : Name = get_or names k d in
    let more : map name_view (take (k + 1) names) ≡ map name_view (take k names) ++ name_view name ∷ [] = ap (map name_view) (take_more names k d lt) ∙ map-append name_view (take k names) (name ∷ []) in
    subst (λ (ns : List Named). IsIndexOf f base ns new) (sym more) (index-learns f base (map name_view (take k names)) old new name.text.bytes target name.entry is learns indexed)

-- an index in which nothing that is stored changed
pub index-same : {A : Type 0} (f : ℕ → Option Target) (base : ℕ) (ns : List Named) (old new : NameIndex A) → IsSame old new → IsIndexOf f base ns old → IsIndexOf f base ns new
index-same f base ns old new same indexed = record {
  exports = ap (λ exports. map export_view exports.items) same.exports ∙ indexed.exports;
  ordinals = ap (λ ordinals. ordinals.items) same.ordinals ∙ indexed.ordinals;
  targets = λ text. ap (option_map (option_map target_view)) (same.held text) ∙ indexed.targets text;
}
