use Rattle.std.proofs.Common.{◌≡◌, take}
use Rattle.pe_records_c.specs.Faults.{fault_record}
use Rattle.pe_records_c.specs.Rows.{filled}
use Rattle.c_tables.proofs.archive_finding.tell_findings.Given as goal

abbrev pub invariant-loop-index : goal.invariant-loop-index
invariant-loop-index l = record {
  told : l.rows ≡ filled fault_record (take l.index l.found) l.initial.rows;
}
