-- JSON Lines: texts of JSON objects, each with a line feed after it.
use Rattle.std.specs.Prelude.{◌≡◌, ℕ, List, ◌++◌, codes}
use Rattle.std.specs.List.{All, flat_map}
use Rattle.json.specs.Json.{Members, object}
use Rattle.pe_json.specs.Value.{IsTextOf}

-- the text of a JSON object (RFC 8259)
abbrev pub IsObjectText : List ℕ → Type 0
IsObjectText text = (members : Members) × IsTextOf (object members) text

-- a line: such a text, and a line feed
abbrev pub IsJsonLine : List ℕ → Type 0
IsJsonLine line = (text : List ℕ) × (line ≡ text ++ codes "\n") × IsObjectText text

-- such lines, one after the other
abbrev pub AreJsonLines : List ℕ → Type 0
AreJsonLines lines = (texts : List (List ℕ)) × (lines ≡ flat_map (λ text. text ++ codes "\n") texts) × All IsObjectText texts
