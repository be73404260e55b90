-- One more finding, if it is there.
use Rattle.std.proofs.Common.{◌≡◌, ◌∙◌, ◌+◌, ℕ, List, [], ◌∷◌, ◌++◌, length, take, get_or, None, sym, ap, arith}
use Rattle.std.proofs.lemmas.List.{append-nil, append_assoc, length-append, take_all, take_more}
use Rattle.pe_view.specs.declared.fault.Fault.{Fault}
use Rattle.pe_records_c.specs.Faults.{fault_record}
use Rattle.pe_records_c.specs.Rows.{filled}
use Rattle.pe_records_c.specs.declared.fault.FaultRecord.{FaultRecord}
use Rattle.c_tables.specs.TrustFindings.{present, stored}
use Rattle.c_tables.proofs.PresentFaults.{one_at_most, present_more, stored_behind}
use Rattle.c_tables.proofs.trust_finding.put_findings.Goals as goal

pub loop-index-init : goal.loop-index-init
loop-index-init c = record {
  told = λ done initial len is. is ∙ ap (λ (faults : List Fault). filled fault_record faults initial) (sym (append-nil done));
  counted = omega arith;
  few = omega arith;
}

pub loop-index-preserved : goal.loop-index-preserved
loop-index-preserved c =
    let i = c.loop-index.invariant in
    let found = c.args.found.now in
    let index = c.loop-index.index in
    let next = get_or found index None in
    let before = present (take index found) in
    let len = c.told-found in
    let under = c.loop-index-test.true in
    let more : present (take (index + 1) found) ≡ before ++ present (next ∷ []) =
    ap present (take_more found index None (omega (arith, len, under))) ∙ present_more (take index found) (next ∷ []) in
    let one = one_at_most next in
    let few = i.few in
    let stands = i.counted in
    let counted = c.put_finding-count.ensures.count in
    let sum = length-append before (present (next ∷ [])) in
    let all = ap length more in
    record {
      told = λ done initial start is.
          let both = length-append done before in
          let here : c.loop-index.count ≡ length (done ++ before) = omega (arith, stands, both, start) in
          c.put_finding-count.ensures.rows
          ∙ ap (λ (rows : List FaultRecord). stored c.loop-index.count next rows) (i.told done initial start is)
          ∙ ap (λ (n : ℕ). stored n next (filled fault_record (done ++ before) initial)) here
          ∙ stored_behind next (done ++ before) initial
          ∙ ap (λ (faults : List Fault). filled fault_record faults initial) (append_assoc done before (present (next ∷ [])) ∙ ap (λ (faults : List Fault). done ++ faults) (sym more));
      counted = omega (arith, counted, stands, sum, all);
      few = omega (arith, counted, one, few);
    }

pub returns-clause-rows : goal.returns-clause-rows
returns-clause-rows c = λ done initial len is.
    let whole = c.told-found in
    let past = c.loop-index-test.false in
    c.loop-index.invariant.told done initial len is
    ∙ ap (λ (faults : List _). filled fault_record (done ++ present faults) initial) (take_all c.loop-index.index c.args.found.now (omega (arith, whole, past)))
