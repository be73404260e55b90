-- The parts of a line.
use Rattle.std.specs.Prelude.{ℕ, List, [], ◌∷◌, ◌++◌, Option, None, Some, codes, decimal, option_map}
use Rattle.pe_text.specs.declared.part.Part.{Part}
use Rattle.pe_text.specs.declared.part.Part.TheVariants.{Text, Quoted, Name, Decimal, Hex, Hex2, Hex4, Hex8, Hex16}
use Rattle.pe_text.specs.Text.{hex, hex_at_least, quoted}

-- a space and a name, if there is one
abbrev pub name_text : Option (List ℕ) → List ℕ
name_text None = []
name_text (Some name) = codes " " ++ name

abbrev pub part_text : Part → List ℕ
part_text (Text bytes) = bytes.now
part_text (Quoted text) = quoted text.now
part_text (Name name) = name_text (option_map (λ text. text.now) name)
part_text (Decimal number) = decimal number
part_text (Hex number least) = hex_at_least least number
part_text (Hex2 number) = hex 2 number
part_text (Hex4 number) = hex 4 number
part_text (Hex8 number) = hex 8 number
part_text (Hex16 number) = hex 16 number

-- the concatenation of strings
abbrev pub joined : List (List ℕ) → List ℕ
joined [] = []
joined (text ∷ texts) = text ++ joined texts
