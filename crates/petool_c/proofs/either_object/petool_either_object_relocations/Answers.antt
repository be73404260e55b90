-- What is reported of the section holds for the file's object, and its status is not that of a fault.
use Rattle.std.proofs.Common.{ℕ, List}
use Rattle.std.specs.Prelude.{slice_get}
use Rattle.coff_read.specs.FormReading.{object_of}
use Rattle.coff_read.specs.Forms.{Form}
use Rattle.pe_records_c.specs.ObjectRows.{TellsRelocations}
use Rattle.pe_records_c.proofs.Objects.{relocations_no_fault}
use Rattle.pe_records_c.proofs.Telling.{fault_told, none_refused}
use Rattle.petool_c.proofs.OfFile.{of_file}
use Rattle.petool_c.proofs.either_object.petool_either_object_relocations.Goals as goal

pub returns-in-Ok-clause-refused : goal.returns-in-Ok-clause-refused
returns-in-Ok-clause-refused c = none_refused _ _ _ c.in-Ok.ensures.0 (relocations_no_fault _ _ _ _ _ _ c.tell_relocations.ensures)

pub returns-in-Ok-clause-table : goal.returns-in-Ok-clause-table
returns-in-Ok-clause-table c = λ _.
    of_file (λ (big : Form) (file : List ℕ). TellsRelocations (slice_get (object_of big file).sections c.args.section) c.args.rows.now c.tell_relocations.new.rows c.args.count.now c.tell_relocations.new.count c.tell_relocations.result) c.in-Ok.object _ _ c.in-Ok.ensures.1 c.tell_relocations.ensures

pub returns-in-Ok-clause-rows_kept : goal.returns-in-Ok-clause-rows_kept
returns-in-Ok-clause-rows_kept c = λ one. absurd (relocations_no_fault _ _ _ _ _ _ c.tell_relocations.ensures one)

pub returns-in-Ok-clause-count_kept : goal.returns-in-Ok-clause-count_kept
returns-in-Ok-clause-count_kept c = λ one. absurd (relocations_no_fault _ _ _ _ _ _ c.tell_relocations.ensures one)

pub returns-in-Err-clause-refused : goal.returns-in-Err-clause-refused
returns-in-Err-clause-refused c = fault_told _ c.in-Err.first _ _ _ c.in-Err.ensures c.refuse.ensures.status c.refuse.ensures.told
