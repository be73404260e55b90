use Rattle.std.proofs.Common.{ap}
use Rattle.std.specs.Prelude.{option_map}
use Rattle.coff_archive_json.specs.Line.{alone}
use Rattle.coff_archive_json.proofs.Members.{held_told, fault_told}
use Rattle.coff_archive_json.proofs.member_line.write_import_object.Goals as goal

pub returns-in-Ok-clause-adds : goal.returns-in-Ok-clause-adds
returns-in-Ok-clause-adds g c =
    let opened = rw c.in-Ok.is at c.import_object.ensures in
    held_told _ _ _ (ap (option_map alone) opened.0) c.write_verdict.ensures (rw opened.1 at c.write_import.ensures)

pub returns-in-Err-clause-adds : goal.returns-in-Err-clause-adds
returns-in-Err-clause-adds g c =
    let refused = rw c.in-Err.is at c.import_object.ensures in
    fault_told _ _ _ (alone c.in-Err.fault) (ap (option_map alone) refused) c.write_first_fault.ensures
