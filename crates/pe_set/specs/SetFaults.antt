-- The faults of the names of a set, of each image's file, and of where the images are.
use Rattle.std.specs.Prelude.{◌≡◌, ℕ, ◌==◌, Bool, true, false, not, List, [], ◌∷◌, ◌++◌, take, map, None, Some, Result, Ok, Err}
use Rattle.std.specs.List.{list_any}
use Rattle.pe_view.specs.declared.fault.Place.TheVariants.{Item}
use Rattle.pe_view.specs.Faults.{Test, test, first_standing}
use Rattle.pe_head.specs.declared.optional.Magic.{Magic}
use Rattle.pe_head.specs.declared.optional.Magic.TheVariants.{Pe32, Pe32Plus}
use Rattle.pe_view.specs.declared.refusal.Refusal.{Refusal}
use Rattle.pe_view.specs.declared.refusal.Refusal.TheVariants as refusals
use Rattle.pe_set.specs.Numbered.{numbered}
use Rattle.pe_image.specs.ImageTests.{image_tests}
use Rattle.pe_set.specs.Placement.{base_tests}
use Rattle.pe_set.specs.Set.{Entry, Module, modules_of, placement_of, same_name}
use Rattle.pe_set.specs.declared.entry.Policy.{Policy}
use Rattle.pe_set.specs.declared.entry.Policy.TheVariants.{Strict, Known}
use Rattle.pe_set.specs.declared.error.MapError.{MapError}
use Rattle.pe_set.specs.declared.error.MapError.TheVariants as errors

-- entry i, if it is one too many, or an earlier one has its name
abbrev pub name_tests : List Entry → ℕ → Entry → List Test
name_tests es i e =
    test 41 i (Item i) (i == 256)
    ∷ test 42 i (Item i) (list_any (λ (before : Entry). same_name e.name before.name) (take i es))
    ∷ []

-- faults 41 and 42: entries after number 256 do not matter, since 41 holds for that one
unfoldable pub names_tests : List Entry → List Test
names_tests es = numbered (name_tests es) 0 es

-- the image faults of each file
unfoldable pub files_tests : List Entry → List Test
files_tests es = numbered (λ i (e : Entry). image_tests i e.file) 0 es

abbrev pub same_magic : Magic → Magic → Bool
same_magic Pe32 Pe32 = true
same_magic Pe32Plus Pe32Plus = true
same_magic a b = false

-- the Magic of an image is not that of the set's first
abbrev pub has_other_magic : List Module → Module → Bool
has_other_magic [] m = false
has_other_magic (first ∷ s) m = not (same_magic first.magic m.magic)

-- faults 43 to 47 of image i of a set
abbrev pub placing_tests : List Module → ℕ → Module → List Test
placing_tests s i m = test 43 i (Item i) (has_other_magic s m) ∷ base_tests (map placement_of (take i s)) i (placement_of m)

-- faults 43 to 47
unfoldable pub places_tests : List Module → List Test
places_tests s = numbered (placing_tests s) 0 s

-- the faults of names, files and places
abbrev pub placed_tests : List Entry → List Test
placed_tests es = names_tests es ++ (files_tests es ++ places_tests (modules_of es))

abbrev pub is_strict : Policy → Bool
is_strict Strict = true
is_strict Known = false

-- ---- the results
-- the first fault of names, files or places, none of which is a cycle; or out of memory
abbrev pub RefusesClass : List Test → MapError → Type 0
RefusesClass tests errors.Memory = Unit {0}
RefusesClass tests (errors.Fault fault) = first_standing tests ≡ Some fault
RefusesClass tests (errors.Cycle fault length) = ⊥

-- Ok, with a value that has the property, only if no test holds; otherwise the first fault, or out of memory
abbrev pub ClassAnswers : {X : Type 0} → List Test → (X → Type 0) → Result X MapError → Type 0
ClassAnswers tests P (Ok x) = (first_standing tests ≡ None) × P x
ClassAnswers tests P (Err error) = RefusesClass tests error

abbrev pub map_error : Refusal → MapError
map_error (refusals.Fault fault) = errors.Fault fault
map_error refusals.Memory = errors.Memory
