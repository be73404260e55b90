-- The numbers that the rule of a fault compares, as C has them.
use Rattle.std.specs.Prelude.{ℕ, length, List, [], Option, None, Some}
use Rattle.pe_view.specs.declared.fault.Fault.{Fault}
use Rattle.pe_detail.specs.DetailWords.{Words, detail_words}
use Rattle.pe_detail.specs.FaultDetail.{fault_detail}
use Rattle.pe_detail.specs.declared.detail.Detail.{Detail}
use Rattle.pe_detail.specs.declared.words.Amount.{Amount}
use Rattle.pe_detail.specs.declared.words.Amount.TheVariants.{Nothing, Count, Place}
use Rattle.pe_records_c.specs.declared.value.ValueRow.{ValueRow}

-- words, and the number after them with its name: of kind 0 none, 1 a size or a count, 2 a place
pub record ValueText : Type 0 where
  pub words : List ℕ
  pub name : List ℕ
  pub number : ℕ
  pub kind : ℕ

abbrev pub value_text : ValueRow → ValueText
value_text row = record { words = row.words.now; name = row.name.now; number = row.number; kind = row.kind }

abbrev pub value_by : List ℕ → List ℕ → Amount → ValueText
value_by words name Nothing = record { words = words; name = name; number = 0; kind = 0 }
value_by words name (Count number) = record { words = words; name = name; number = number; kind = 1 }
value_by words name (Place number) = record { words = words; name = name; number = number; kind = 2 }

abbrev pub value_of : Words → ValueText
value_of part = value_by part.0 part.1 part.2

-- the parts of a detail; those that it does not need are empty
abbrev pub parts_in : Option Detail → List Words
parts_in None = []
parts_in (Some detail) = detail_words detail

-- those of a fault of a file
abbrev pub fault_values : List ℕ → Fault → List Words
fault_values file fault = parts_in (fault_detail file (length file) fault)
