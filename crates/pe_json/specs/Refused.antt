-- The line of a refused file.
use Rattle.std.specs.Prelude.{ℕ, false, List, [], ◌∷◌, ◌++◌, codes, flat_map, Option, None, Some, option_map}
use Rattle.json.specs.Print.{quoted}
use Rattle.pe_view.specs.declared.fault.Place.{Place}
use Rattle.pe_view.specs.declared.fault.Place.TheVariants as at
use Rattle.pe_view.specs.declared.fault.Fault.{Fault}
use Rattle.pe_detail.specs.DetailWords as detail
use Rattle.pe_detail.specs.DetailWords.{detail_words}
use Rattle.pe_detail.specs.declared.detail.Detail.{Detail}
use Rattle.pe_detail.specs.declared.words.Amount.{Amount}
use Rattle.pe_detail.specs.declared.words.Amount.TheVariants as amount
use Rattle.pe_detail.specs.FaultDetail.{fault_detail}
use Rattle.pe_text.specs.FaultWords.{Words, words_in, rules}
use Rattle.pe_text.specs.FileKind.{kind_name, other_kind}
use Rattle.pe_tables.specs.Exports.{Exports}
use Rattle.pe_tables.specs.Imports.{Import}
use Rattle.pe_tables.specs.declared.fixups.Fixup.{Fixup}
use Rattle.pe_json.specs.JsonText.{member, object, number, text_if, address_string}
use Rattle.pe_json.specs.ImageLine.{exports_members, imports_members, fixups_members}
use Rattle.pe_json.specs.Line.{line}

-- ---- the fault
-- what is at the place of the fault
unfoldable pub place_object : Place → List ℕ
place_object (at.File offset) = object (number (codes "file") offset ∷ [])
place_object (at.Rva rva) = object (number (codes "rva") rva ∷ [])
place_object (at.Address address) = object (member (codes "address") (address_string address) ∷ [])
place_object (at.Item item) = object (number (codes "item") item ∷ [])

unfoldable pub place_members : Fault → List (List ℕ)
place_members f = number (codes "image") f.image ∷ member (codes "place") (place_object f.place) ∷ []

-- what is there and what is wrong with it, if the number has words
unfoldable pub words_members : Option Words → List (List ℕ)
words_members None = []
words_members (Some words) = member (codes "subject") (quoted words.0) ∷ member (codes "rule") (quoted words.1) ∷ []

-- a number that the rule compares, under its name
abbrev pub amount_items : List ℕ → Amount → List (List ℕ)
amount_items name amount.Nothing = []
amount_items name (amount.Count n) = number name n ∷ []
amount_items name (amount.Place n) = number name n ∷ []

abbrev pub value_items : detail.Words → List (List ℕ)
value_items part = amount_items part.1 part.2

-- the values, if there are any
abbrev pub values_object : List (List ℕ) → List (List ℕ)
values_object [] = []
values_object (value ∷ values) = member (codes "values") (object (value ∷ values)) ∷ []

unfoldable pub values_members : Option Detail → List (List ℕ)
values_members None = []
values_members (Some detail) = values_object (flat_map value_items (detail_words detail))

-- a fault, with the numbers of the file that its rule compares
abbrev pub fault_object : Fault → Option Detail → List ℕ
fault_object f detail = object (number (codes "number") f.number ∷ (place_members f ++ (words_members (words_in rules f.number) ++ values_members detail)))

unfoldable pub fault_members : Fault → Option Detail → List (List ℕ)
fault_members f detail = member (codes "fault") (fault_object f detail) ∷ []

-- ---- the tables that have no fault
unfoldable pub exports_if : Option Exports → List (List ℕ)
exports_if None = []
exports_if (Some exports) = exports_members exports

unfoldable pub imports_if : Option (List Import) → List (List ℕ)
imports_if None = []
imports_if (Some imports) = imports_members imports

unfoldable pub fixups_if : Option (List Fixup) → List (List ℕ)
fixups_if None = []
fixups_if (Some fixups) = fixups_members fixups

-- ---- the line
-- what a refused file is instead, if its first bytes show it
abbrev pub kind_of_refused : Fault → List ℕ → Option (List ℕ)
kind_of_refused fault seen = option_map kind_name (other_kind fault.number seen)

-- the line of a refused file: what it is instead, its fault with the numbers that the rule compares, and the members of what has none
abbrev pub refused_by : List ℕ → Option (List ℕ) → Fault → Option Detail → List (List ℕ) → List ℕ
refused_by file kind fault detail members = line file false ((text_if (codes "kind") kind ++ fault_members fault detail) ++ members)

-- the same of a file of a size; `seen` are its bytes as views see them
abbrev pub refused_line : List ℕ → List ℕ → ℕ → Fault → List (List ℕ) → List ℕ
refused_line file seen size fault members = refused_by file (kind_of_refused fault seen) fault (fault_detail seen size fault) members
