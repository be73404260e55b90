-- The names by which images are found. No contract of a public function cites it.
use Rattle.std.specs.Prelude.{◌≡◌, ℕ, List, map, take, position, slice_get, Option, Some, false}
use Rattle.std.specs.List.{list_any}
use Rattle.std.specs.Str.{bytes_eq, str_to_ascii_lowercase}
use Rattle.pe_set.specs.Set.{Module, same_name}
use Rattle.pe_set.specs.declared.module_names.Names.{Names}

-- as they are stored, in lower case
abbrev pub names_in : {A : Type 0} → Names A → List (List ℕ)
names_in names = map (λ name. name.items) names.names.keys

-- the names of images in lower case
abbrev pub lowered : List Module → List (List ℕ)
lowered s = map (λ (m : Module). str_to_ascii_lowercase m.name) s

-- no image has the name of an earlier one
abbrev pub AreDistinct : List Module → Type 0
AreDistinct s = (i : ℕ) (m : Module) → slice_get s i ≡ Some m → list_any (λ (before : Module). same_name m.name before.name) (take i s) ≡ false

-- the number of the image that a name names, which is looked up in lower case
abbrev pub found : List (List ℕ) → List ℕ → Option ℕ
found names name = position (λ other. bytes_eq (str_to_ascii_lowercase name) other) names

-- two strings are the same name of these, or neither is one
abbrev pub FoundAlike : List (List ℕ) → List ℕ → List ℕ → Type 0
FoundAlike names text other = position (λ name. bytes_eq text name) names ≡ position (λ name. bytes_eq other name) names
