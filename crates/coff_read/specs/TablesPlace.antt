-- Where the tables of an object file are, as the reader stores it. No contract of a public function cites it.
use Rattle.std.specs.Prelude.{◌≡◌, ◌||◌, ℕ, ◌+◌, ◌*◌, ◌≤◌, ◌^◌, length, List, is_none, nat_le, nat_lt}
use Rattle.coff_read.specs.Forms.{Form, header_len, optional_size, section_count, symbol_len}
use Rattle.coff_read.specs.FormReading.{strings_start, strings_size, string_at, symbol_pointer, record_count}
use Rattle.coff_read.specs.declared.tables.Tables.{Tables}

pub record AreTables (big : Form) (file : List ℕ) (t : Tables) : Type 0 where
  pub headers : t.headers ≡ header_len big + optional_size big file
  pub sections : t.sections ≡ section_count big file
  pub headers_inside : t.headers + 40 * t.sections ≤ length file
  pub symbols : t.symbols ≡ symbol_pointer big file
  pub records : t.records ≡ record_count big file
  pub symbols_inside : t.symbols + symbol_len big * t.records ≤ length file
  pub strings : t.strings ≡ strings_start big file
  pub strings_size : t.strings_size ≡ strings_size big file
  pub strings_inside : t.strings + t.strings_size ≤ length file
  pub texts : (offset : ℕ) → is_none (string_at big file offset) ≡ (nat_lt offset 4 || nat_le t.texts offset)
  pub small : length file ≤ 2 ^ 32
