use Rattle.std.proofs.Common.{ap}
use Rattle.std.specs.Prelude.{option_map}
use Rattle.pe_view.specs.declared.fault.Fault.{Fault}
use Rattle.coff_archive_json.specs.MemberLine.{numbers_of}
use Rattle.coff_archive_json.proofs.Members.{held_told, fault_told}
use Rattle.coff_archive_json.proofs.member_line.write_object.Goals as goal

pub returns-in-Ok-clause-adds : goal.returns-in-Ok-clause-adds
returns-in-Ok-clause-adds g c =
    let opened = rw c.in-Ok.is at c.new.ensures in
    let bytes = c.args.bytes.now in
    held_told _ _ _ (ap (option_map (λ (fault : Fault). (fault, numbers_of bytes fault))) opened.0) c.write_verdict.ensures (rw (opened.1.0, opened.1.1) at c.write_object_members.ensures)

pub returns-in-Err-clause-adds : goal.returns-in-Err-clause-adds
returns-in-Err-clause-adds g c =
    let refused = rw c.in-Err.is at c.new.ensures in
    let bytes = c.args.bytes.now in
    fault_told _ _ _ _ (ap (option_map (λ (fault : Fault). (fault, numbers_of bytes fault))) refused) (rw c.numbers_of.ensures at c.write_first_fault.ensures)
