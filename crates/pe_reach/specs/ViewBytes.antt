-- What was read of a file for a view.
use Rattle.std.specs.Prelude.{ℕ, List, Option}
use Rattle.pe_view.specs.declared.fault.Fault.{Fault}
use Rattle.pe_reach.specs.declared.view_reading.ViewBytes.{ViewBytes}

-- the bytes that were read
abbrev pub bytes_read : {A : Type 0} → ViewBytes A → List ℕ
bytes_read seen = seen.bytes.items

-- the size of the file
abbrev pub size_told : {A : Type 0} → ViewBytes A → ℕ
size_told seen = seen.len

-- the fault by which they refuse it, if no more were read because of it
abbrev pub refused_by : {A : Type 0} → ViewBytes A → Option Fault
refused_by seen = seen.refused
