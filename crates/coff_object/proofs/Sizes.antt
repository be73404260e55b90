-- The sizes of a written object's parts, and the names of its string table, item by item.
use Rattle.std.proofs.Common.{◌≡◌, ℕ, ◌+◌, ◌*◌, ◌^◌, ◌<◌, ◌≤◌, Bool, List, [], ◌∷◌, ◌++◌, length, drop, get_or, refl, sym, ap, ◌∙◌, length-append, arith}
use Rattle.std.specs.Prelude.{map, filter}
use Rattle.std.specs.List.{flat_map}
use Rattle.std.proofs.lemmas.List.{drop_all}
use Rattle.coff_read.specs.ObjectView.{section_view}
use Rattle.coff_read.specs.Records as format
use Rattle.coff_object.specs.StringTableView.{counted}
use Rattle.coff_read.specs.Strings.{with_strings}
use Rattle.coff_object.specs.Written.{relocation_bytes}
use Rattle.coff_read.specs.declared.relocation.Relocation.{Relocation}
use Rattle.coff_object.proofs.Listed.{items_left}
use Rattle.coff_object.proofs.SectionsBack.{length-relocations}
use Rattle.coff_read.specs.declared.section.ObjSection.{ObjSection}

-- all items are counted
pub all_counted : {X : Type 0} (F : List X → ℕ) (xs : List X) (i size whole : ℕ) → length xs ≤ i → size < 2 ^ 64 → F [] ≡ 0 → counted (size + F (drop i xs)) ≡ counted whole → size ≡ counted whole
all_counted F xs i size whole le small none is =
    let gone = ap F (drop_all i xs le) in
    omega arith

-- one item more is counted
pub next_counted : {X Y : Type 0} (view : X → Y) (F : List Y → ℕ) (f : Y → ℕ) (xs : List X) (i : ℕ) (x : X) (one before after whole : ℕ) → ((y : Y) (ys : List Y) → F (y ∷ ys) ≡ f y + F ys)
    → i < length xs → x ≡ get_or xs i x → one ≡ f (view x) → after ≡ counted (before + one) → counted (before + F (map view (drop i xs))) ≡ counted whole → counted (after + F (map view (drop (i + 1) xs))) ≡ counted whole
next_counted view F f xs i x one before after whole each lt is size sum inv =
    let step : F (map view (drop i xs)) ≡ f (view x) + F (map view (drop (i + 1) xs)) = ap F (items_left view xs i x lt is) ∙ each (view x) (map view (drop (i + 1) xs)) in
    omega (arith, step, size, sum, inv)

-- all names are added
pub all_named : {X : Type 0} (test : List ℕ → Bool) (name : X → List ℕ) (texts : List (List ℕ)) (whole : List (List ℕ)) (xs : List X) (i : ℕ) → length xs ≤ i
    → with_strings texts (filter test (map name (drop i xs))) ≡ whole → texts ≡ whole
all_named test name texts whole xs i le is = sym (ap (λ (ys : List _). with_strings texts (filter test (map name ys))) (drop_all i xs le)) ∙ is

pub section_names : {A : Type 0} (xs : List (ObjSection A)) → map (λ s. s.name.now) xs ≡ map (λ (s : format.Section). s.name) (map section_view xs)
section_names [] = refl
section_names (x ∷ xs) = ap (λ (ns : List (List ℕ)). x.name.now ∷ ns) (section_names xs)

pub symbol_names : {S : Type 0} (view : S → format.Symbol) (xs : List S) → map (λ s. (view s).name) xs ≡ map (λ (s : format.Symbol). s.name) (map view xs)
symbol_names view [] = refl
symbol_names view (x ∷ xs) = ap (λ (ns : List (List ℕ)). (view x).name ∷ ns) (symbol_names view xs)

pub relocations_counted : (rs : List Relocation) → counted (length rs * 10) ≡ counted (length (flat_map relocation_bytes rs))
relocations_counted rs = let len = length-relocations rs in omega arith

pub body_counted : (raw relocations : List ℕ) → counted (length raw + counted (length relocations)) ≡ counted (length (raw ++ relocations))
body_counted raw relocations =
    let both : length (raw ++ relocations) ≡ length raw + length relocations = length-append raw relocations in
    omega arith
