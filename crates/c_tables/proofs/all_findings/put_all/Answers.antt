-- One more finding.
use Rattle.std.proofs.Common.{◌∙◌, ◌<◌, List, ◌++◌, length, refl, sym, ap, arith}
use Rattle.std.proofs.lemmas.List.{append-nil, take_all}
use Rattle.pe_view.specs.declared.fault.Fault.{Fault}
use Rattle.pe_records_c.specs.Faults.{fault_record}
use Rattle.pe_records_c.specs.Rows.{filled}
use Rattle.c_tables.proofs.FindingParts.{all_stored}
use Rattle.c_tables.proofs.all_findings.put_all.Goals as goal

pub loop-index-init : goal.loop-index-init
loop-index-init c = λ done initial len is. is ∙ ap (λ (faults : List Fault). filled fault_record faults initial) (sym (append-nil done))

pub loop-index-preserved : goal.loop-index-preserved
loop-index-preserved c =
    let found = c.args.found.now in
    let under : c.loop-index.index < length found = c.loop-index-test.true in
    λ done initial len is.
    all_stored found done c.loop-index.index c.args.start _ _ initial c.loop-index.rows c.put_row.new.rows c.fault_record.result under refl len (c.loop-index.invariant done initial len is) c.fault_record.ensures c.put_row.ensures

pub returns-clause-rows : goal.returns-clause-rows
returns-clause-rows c = λ done initial len is.
    let past = c.loop-index-test.false in
    c.loop-index.invariant done initial len is ∙ ap (λ (faults : List Fault). filled fault_record (done ++ faults) initial) (take_all c.loop-index.index c.args.found.now (omega (arith, past)))
