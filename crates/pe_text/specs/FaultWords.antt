-- A fault in words: what is at its place, and the rule that it breaks.
use Rattle.std.specs.Prelude.{ℕ, false, ◌==◌, if◌then◌else◌, List, [], ◌∷◌, ◌++◌, codes, decimal, Option, None, Some, unwrap_or, map}
use Rattle.std.specs.Fmt.{digits}
use denote.Bor.{Bor}
use Rattle.pe_text.specs.declared.fault_text.TheConstants.{RULES, FINDING_RULES}
use Rattle.pe_text.specs.declared.fault_text.FaultWords.{FaultWords}
use Rattle.pe_text.specs.declared.fault_text.PlaceNumber.{PlaceNumber}
use Rattle.pe_text.specs.declared.fault_text.PlaceNumber.TheVariants.{Hex, Decimal}
use Rattle.pe_view.specs.declared.fault.Place.{Place}
use Rattle.pe_view.specs.declared.fault.Place.TheVariants.{File, Rva, Address, Item}
use Rattle.pe_view.specs.declared.fault.Fault.{Fault}

-- what is at the place of a fault, and what is wrong with it
abbrev pub Words : Type 0
Words = List ℕ × List ℕ

abbrev pub words_view : FaultWords → Words
words_view w = (w.subject.now, w.rule.now)

-- the words of a fault, in a table of numbers and words
abbrev pub words_in : List (ℕ × Words) → ℕ → Option Words
words_in [] number = None
words_in (row ∷ rows) number = if number == row.0 then Some row.1 else words_in rows number

-- a row of a table of numbers and words, as the code has it
abbrev pub rule_view : ℕ × Bor (List ℕ) × Bor (List ℕ) → ℕ × Words
rule_view row = (row.0, (row.1.now, row.2.now))

-- the words of each fault and each finding, by its number
unfoldable pub rules : List (ℕ × Words)
rules = map (λ row. (row.0, (row.1.now, row.2.now))) RULES ++ map (λ row. (row.0, (row.1.now, row.2.now))) FINDING_RULES

-- the words of a number, also of one that no fault has
abbrev pub words_of : ℕ → Words
words_of number = unwrap_or (words_in rules number) (codes "place", codes "no fault has this number")

-- a number in hexadecimal, without zeros before it
abbrev pub hex_text : ℕ → List ℕ
hex_text = digits 16 false

-- the words before the number of a place
abbrev pub at_words : Place → List ℕ
at_words (File offset) = codes " at 0x"
at_words (Rva rva) = codes " at RVA 0x"
at_words (Address address) = codes " 0x"
at_words (Item item) = codes " "

-- the number of a place: of an item in decimal, else in hexadecimal
abbrev pub place_number : Place → List ℕ
place_number (File offset) = hex_text offset
place_number (Rva rva) = hex_text rva
place_number (Address address) = hex_text address
place_number (Item item) = decimal item

-- the digits of a number, in the base that the code has with it
abbrev pub number_text : PlaceNumber → List ℕ
number_text (Hex number) = hex_text number
number_text (Decimal number) = decimal number

-- the words with the place between them
abbrev pub with_place : Words → Place → List ℕ
with_place words place = words.0 ++ at_words place ++ place_number place ++ codes ": " ++ words.1

-- the fault in words
abbrev pub sentence : Fault → List ℕ
sentence fault = with_place (words_of fault.number) fault.place
