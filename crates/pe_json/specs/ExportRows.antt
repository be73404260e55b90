-- The exports of an image in a line of JSON: a row for each name, and for each ordinal that has none.
use Rattle.std.specs.Prelude.{ℕ, ◌==◌, List, [], ◌∷◌, ◌++◌, codes, flat_map, filter, slice_get, Option, None, Some, option_map}
use Rattle.std.specs.List.Sorted.{IsPermutation}
use Rattle.pe_tables.specs.ExportNames.{indexed}
use Rattle.pe_tables.specs.Key.{Target, Rva, Forward}
use Rattle.pe_tables.specs.Exports.{Exports}
use Rattle.pe_json.specs.JsonText.{member, object, list, number, name}
use Rattle.pe_json.specs.TableRows.{key_member}

unfoldable pub name_if : Option (List ℕ) → List (List ℕ)
name_if None = []
name_if (Some text) = name (codes "name") text ∷ []

-- an RVA, or the module and the key of a forwarder
unfoldable pub target_members : Target → List (List ℕ)
target_members (Rva rva) = number (codes "rva") rva ∷ []
target_members (Forward text key) = member (codes "forward") (object (name (codes "module") text ∷ key_member key ∷ [])) ∷ []

-- an export by its ordinal, and by its name if it has one
unfoldable pub export_row : ℕ → Option (List ℕ) → Target → List ℕ
export_row ordinal text target = object (number (codes "ordinal") ordinal ∷ (name_if text ++ target_members target))

-- the name with an index, which is there
abbrev pub name_at : List (List ℕ × Target) → ℕ → Option (List ℕ)
name_at exports index = option_map (λ export. export.0) (slice_get exports index)

-- the row of a name
abbrev pub row_if : ℕ → Target → Option (List ℕ) → List (List ℕ)
row_if ordinal target None = []
row_if ordinal target (Some text) = export_row ordinal (Some text) target ∷ []

-- the rows of an ordinal with these names, each an ordinal and the index of an exported name
abbrev pub own_rows : List (List ℕ × Target) → ℕ → Target → List (ℕ × ℕ) → List (List ℕ)
own_rows exports ordinal target [] = export_row ordinal None target ∷ []
own_rows exports ordinal target (own ∷ names) = flat_map (λ name. row_if ordinal target (name_at exports name.1)) (own ∷ names)

-- the rows of an ordinal, among names
abbrev pub ordinal_rows : List (List ℕ × Target) → List (ℕ × ℕ) → ℕ × Target → List (List ℕ)
ordinal_rows exports names pair = own_rows exports pair.0 pair.1 (filter (λ name. name.0 == pair.0) names)

-- the rows of all ordinals, each with its names in the order of the name pointer table
abbrev pub export_rows : Exports → List (List ℕ)
export_rows exports = flat_map (ordinal_rows exports.names (indexed exports.name_ordinals)) exports.ordinals

abbrev pub exports_list : Exports → List ℕ
exports_list exports = list (export_rows exports)

-- names, each an ordinal and an index, are those of exports
abbrev pub AreNamesOf : Exports → List (ℕ × ℕ) → Type 0
AreNamesOf exports names = IsPermutation (indexed exports.name_ordinals) names
