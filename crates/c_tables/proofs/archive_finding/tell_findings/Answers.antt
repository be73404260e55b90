-- One more finding.
use Rattle.std.proofs.Common.{◌∙◌, List, set, ap, arith}
use Rattle.std.proofs.lemmas.Option.{slice_get-get_or}
use Rattle.pe_records_c.specs.Faults.{fault_record}
use Rattle.pe_records_c.specs.Rows.{filled}
use Rattle.pe_records_c.specs.declared.fault.FaultRecord.{FaultRecord}
use Rattle.c_tables.proofs.FilledRows.{filled_more}
use Rattle.c_tables.proofs.archive_finding.tell_findings.Goals as goal

pub loop-index-preserved : goal.loop-index-preserved
loop-index-preserved c =
    let found = c.args.found.now in
    let index = c.loop-index.index in
    let here = slice_get-get_or found index _ (omega (arith, c.loop-index-test.true)) in
    record {
      told = c.put_row.ensures
          ∙ ap (λ (rows : List FaultRecord). set rows index c.fault_record.result) c.loop-index.invariant.told
          ∙ ap (set (filled fault_record _ c.args.rows.now) index) c.fault_record.ensures
          ∙ filled_more fault_record found c.args.rows.now index _ here;
    }
