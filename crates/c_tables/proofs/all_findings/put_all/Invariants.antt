use Rattle.std.proofs.Common.{◌≡◌, ◌++◌, List, length, take}
use Rattle.pe_view.specs.declared.fault.Fault.{Fault}
use Rattle.pe_records_c.specs.Faults.{fault_record}
use Rattle.pe_records_c.specs.Rows.{filled}
use Rattle.pe_records_c.specs.declared.fault.FaultRecord.{FaultRecord}
use Rattle.c_tables.proofs.all_findings.put_all.Given as goal

abbrev pub invariant-loop-index : goal.invariant-loop-index
invariant-loop-index l =
    (done : List Fault) (initial : List FaultRecord) → length done ≡ l.start → l.initial.rows ≡ filled fault_record done initial
    → l.rows ≡ filled fault_record (done ++ take l.index l.found) initial
