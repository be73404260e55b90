-- A line of JSON: its first members, those after them, and its line feed.
use Rattle.std.specs.Prelude.{ℕ, Bool, List, [], ◌∷◌, ◌++◌, codes}
use Rattle.pe_json.specs.JsonText.{member, object, number, name, boolean}
use Rattle.pe_json.specs.Listed.{more}

-- the first members of each line after `schema`
unfoldable pub first_members : List ℕ → Bool → List (List ℕ)
first_members file accepted = name (codes "file") file ∷ member (codes "accepted") (boolean accepted) ∷ []

-- the beginning of a line, up to and with `accepted`
abbrev pub begun : List ℕ → Bool → List ℕ
begun file accepted = (codes "{" ++ number (codes "schema") 1) ++ more (first_members file accepted)

-- a line with these members after `accepted`, and its line feed
abbrev pub line : List ℕ → Bool → List (List ℕ) → List ℕ
line file accepted members = object (number (codes "schema") 1 ∷ (first_members file accepted ++ members)) ++ codes "\n"
