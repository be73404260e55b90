-- Auxiliary records of an object of either form: the symbol that they follow decides their shape.
use Rattle.std.specs.Prelude.{ℕ, ◌*◌, false, true, List, Option, Some, None, nat_lt, if◌then◌else◌}
use Rattle.pe_view.specs.Number.{part}
use Rattle.coff_read.specs.Auxiliary as plain
use Rattle.coff_read.specs.Auxiliary.{AuxRecord}
use Rattle.coff_read.specs.BigAuxiliary.{big_aux_of}
use Rattle.coff_read.specs.FormRecords.{aux_records}
use Rattle.coff_read.specs.Forms.{Form, symbol_len}
use Rattle.coff_read.specs.Records.{Symbol}

-- the record in these bytes, after a symbol
abbrev pub aux_of : Form → Symbol → List ℕ → AuxRecord
aux_of false s r = plain.aux_of s r
aux_of true s r = big_aux_of s r

-- auxiliary record k of a symbol
abbrev pub aux_record : Form → Symbol → ℕ → Option AuxRecord
aux_record big s k = if nat_lt k (aux_records big s) then Some (aux_of big s (part s.aux (symbol_len big * k) (symbol_len big))) else None
