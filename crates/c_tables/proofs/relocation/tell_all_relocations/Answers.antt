-- The rows are those of the relocations of the object's sections, after the skipped ones.
use Rattle.std.proofs.Common.{drop}
use Rattle.c_tables.specs.Relocations.{relocations_of}
use Rattle.coff_read.specs.EitherObject.{file_of, form_of}
use Rattle.pe_records_c.specs.ObjectRows.{relocation_row}
use Rattle.pe_records_c.proofs.Rows.{table_of}
use Rattle.c_tables.proofs.relocation.tell_all_relocations.Goals as goal

pub returns : goal.returns
returns c =
    table_of (λ row. row) relocation_row (drop c.args.skipped (relocations_of (form_of c.args.object.now) (file_of c.args.object.now))) _ _ _ _ c.put_all_relocations.ensures.rows c.put_all_relocations.ensures.count c.table_status.ensures
