use Rattle.std.proofs.Common.{◌≡◌, ◌+◌, ◌≤◌, ◌++◌, List, length, take}
use Rattle.pe_view.specs.declared.fault.Fault.{Fault}
use Rattle.pe_records_c.specs.Faults.{fault_record}
use Rattle.pe_records_c.specs.Rows.{filled}
use Rattle.pe_records_c.specs.declared.fault.FaultRecord.{FaultRecord}
use Rattle.c_tables.specs.TrustFindings.{present}
use Rattle.c_tables.proofs.trust_finding.put_findings.Given as goal

abbrev pub invariant-loop-index : goal.invariant-loop-index
invariant-loop-index l = record {
  told : (done : List Fault) (initial : List FaultRecord) → length done ≡ l.start → l.initial.rows ≡ filled fault_record done initial
      → l.rows ≡ filled fault_record (done ++ present (take l.index l.found)) initial;
  counted : l.count ≡ l.start + length (present (take l.index l.found));
  few : l.count ≤ l.start + l.index;
}
