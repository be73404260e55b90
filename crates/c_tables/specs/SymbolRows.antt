-- Symbols of an object of either form as C has them, with strings as their bytes.
use Rattle.std.specs.Prelude.{ℕ, List}
use Rattle.c_tables.specs.declared.symbol.EitherObjectSymbolRow.{EitherObjectSymbolRow}
use Rattle.coff_read.specs.BigLeft.{indexed}
use Rattle.coff_read.specs.FormReading.{symbol_indexes}
use Rattle.coff_read.specs.FormRecords.{section_number}
use Rattle.coff_read.specs.Forms.{Form, Big}
use Rattle.coff_read.specs.Records.{Symbol}

-- the symbols of an object's file, each with the index of its record
unfoldable pub symbols_of : Form → List ℕ → List (ℕ × Symbol)
symbols_of big file = indexed big file (symbol_indexes big file)

pub record SymbolText : Type 0 where
  pub name : List ℕ
  pub aux : List ℕ
  pub index : ℕ
  pub value : ℕ
  pub section_number : ℕ
  pub kind : ℕ
  pub class : ℕ

-- a symbol of either form: a symbol without a section has the number of 32 bits that a big object's has
abbrev pub symbol_row : ℕ × Symbol → SymbolText
symbol_row s = record {
  name = s.1.name;
  aux = s.1.aux;
  index = s.0;
  value = s.1.value;
  section_number = section_number Big s.1.section;
  kind = s.1.kind;
  class = s.1.class;
}

abbrev pub symbol_text : EitherObjectSymbolRow → SymbolText
symbol_text row = record {
  name = row.name.now;
  aux = row.aux.now;
  index = row.index;
  value = row.value;
  section_number = row.section_number;
  kind = row.kind;
  class = row.class;
}
