-- The rows are those of the findings that are there.
use Rattle.std.proofs.Common.{◌≡◌, ◌∙◌, List, [], length, refl, sym, ap, rules, zero-add}
use Rattle.std.proofs.lemmas.List.{map-id}
use Rattle.pe_view.specs.View.{bytes_of}
use Rattle.pe_view.specs.declared.fault.Fault.{Fault}
use Rattle.pe_records_c.specs.Faults.{fault_record}
use Rattle.pe_records_c.specs.Rows.{filled}
use Rattle.c_tables.specs.TrustFindings.{present, trust_findings_of}
use Rattle.c_tables.proofs.FilledRows.{filled_none}
use Rattle.c_tables.proofs.trust_finding.tell_trust_findings.Goals as goal

pub returns : goal.returns
returns c =
    let own = trust_findings_of (bytes_of c.args.file) c.args.headers.now in
    let old = c.args.rows.now in
    let told = c.put_findings.ensures in
    let own_is : present c.findings_in.result ≡ own = ap present c.findings_in.ensures in
    let rows : c.put_findings.new.rows ≡ filled fault_record own old =
    told.rows [] old refl (sym (filled_none fault_record old)) ∙ ap (λ (faults : List Fault). filled fault_record faults old) own_is in
    let counted : c.put_findings.result ≡ length own = told.count ∙ zero-add (length (present c.findings_in.result)) ∙ ap length own_is in
    record {
      rows = map-id c.put_findings.new.rows ∙ rows ∙ ap (filled fault_record own) (sym (map-id old));
      count_is = counted;
      status_is = search (rules, counted);
    }
