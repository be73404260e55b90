-- A line of an archive's JSON: a schema, the archive's name, and what is told.
use Rattle.std.specs.Prelude.{ℕ, true, false, List, [], ◌∷◌, ◌++◌, codes, Option, None, Some}
use Rattle.pe_view.specs.declared.fault.Fault.{Fault}
use Rattle.pe_detail.specs.declared.detail.Detail.{Detail}
use Rattle.pe_json.specs.JsonText.{member, object, number, name, boolean}
use Rattle.pe_json.specs.Listed.{more}
use Rattle.pe_json.specs.Refused.{fault_members}

-- the line of an archive with this name that has these members after it, and its line feed
abbrev pub line : List ℕ → List (List ℕ) → List ℕ
line archive members = object (number (codes "schema") 1 ∷ name (codes "archive") archive ∷ members) ++ codes "\n"

-- the beginning of each line, as code adds it
abbrev pub begun : List ℕ → List ℕ
begun archive = (codes "{" ++ number (codes "schema") 1) ++ more (name (codes "archive") archive ∷ [])

-- a fault of which no numbers are told
abbrev pub alone : Fault → Fault × Option Detail
alone fault = (fault, None)

-- whether there is no fault; and the fault if there is one, with the numbers that its rule compares
unfoldable pub verdict : Option (Fault × Option Detail) → List (List ℕ)
verdict None = member (codes "accepted") (boolean true) ∷ []
verdict (Some refusal) = member (codes "accepted") (boolean false) ∷ fault_members refusal.0 refusal.1

-- that of a fault for which no member is told: the file is no archive, or its members end
abbrev pub refused_line : List ℕ → Fault → List ℕ
refused_line archive fault = line archive (verdict (Some (alone fault)))
