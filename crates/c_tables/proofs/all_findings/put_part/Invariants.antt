use Rattle.std.proofs.Common.{◌≡◌, ◌+◌, ◌≤◌, ◌++◌, List, length, take}
use Rattle.pe_view.specs.declared.fault.Fault.{Fault}
use Rattle.pe_records_c.specs.Faults.{fault_record}
use Rattle.pe_records_c.specs.Rows.{filled}
use Rattle.pe_records_c.specs.declared.fault.FaultRecord.{FaultRecord}
use Rattle.c_tables.specs.AllFindings.{part_of}
use Rattle.c_tables.proofs.all_findings.put_part.Given as goal

abbrev pub invariant-loop-index : goal.invariant-loop-index
invariant-loop-index l = record {
  told : (done : List Fault) (initial : List FaultRecord) → length done ≡ l.start → l.initial.rows ≡ filled fault_record done initial
      → l.rows ≡ filled fault_record (done ++ part_of l.is_late (take l.index l.found)) initial;
  counted : l.count ≡ l.start + length (part_of l.is_late (take l.index l.found));
  few : l.count ≤ l.start + l.index;
}
