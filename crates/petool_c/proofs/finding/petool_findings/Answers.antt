-- The rows are those of the image's findings.
use Rattle.std.proofs.Common.{◌≡◌, ◌∙◌, ℕ, List, ap, refl, subst}
use Rattle.pe_view.specs.View.{bytes_of}
use Rattle.pe_view.specs.declared.fault.Fault.{Fault}
use Rattle.pe_view.specs.declared.refusal.Refusal.TheVariants as refusals
use Rattle.pe_head.specs.Head.{head_of}
use Rattle.pe_head.specs.declared.headers.Headers.{Headers}
use Rattle.pe_layout.specs.Image.{LaidOut, image_of_file}
use Rattle.pe_layout.specs.Layout.{IsLayoutOf, headers_of, image_of}
use Rattle.pe_layout.specs.declared.layout.Layout.{Layout}
use Rattle.pe_records_c.specs.Faults.{fault_record}
use Rattle.pe_records_c.specs.Rows.{TellsTable}
use Rattle.pe_records_c.proofs.Telling.{table_accepted, table_refused}
use Rattle.c_tables.specs.AllFindings.{with_between}
use Rattle.c_tables.specs.TrustFindings.{trust_findings_of}
use Rattle.c_tables.specs.ResourceFindings.{FindingsTakeMemory, TablesWantMemory, delay_and_resource_findings, record_and_symbol_findings}
use Rattle.petool_c.proofs.finding.petool_findings.Goals as goal

-- those of the layout are those of its file
same_findings : (layout : Layout) (file bytes : List ℕ) → IsLayoutOf file 0 layout → bytes ≡ file
    → record_and_symbol_findings bytes (headers_of layout) (image_of layout) ≡ record_and_symbol_findings file (head_of file) (image_of_file 0 file)
same_findings layout file bytes of same = λ k. record_and_symbol_findings (same k) (of.headers k) (of.shows k)

pub returns-in-Ok-table_findings : goal.returns-in-Ok-table_findings
returns-in-Ok-table_findings c =
    let file = c.args.file.now in
    let layout = c.in-Ok.layout in
    let laid = c.in-Ok.ensures in
    let found = c.in-Ok-table_findings.ensures in
    let others = c.as_slice-others.ensures.value ∙ found.others ∙ same_findings layout file (bytes_of c.new-view.result) laid.1 c.new-view.ensures in
    let between = c.as_slice-between.ensures.value ∙ found.between ∙ ap delay_and_resource_findings laid.1.shows in
    let others_are = record_and_symbol_findings file (head_of file) (image_of_file 0 file) in
    let between_are = delay_and_resource_findings (image_of_file 0 file) in
    let own = ap (λ (bytes : List ℕ). trust_findings_of bytes c.headers.result) c.new-view.ensures ∙ ap (trust_findings_of file) (c.headers.ensures ∙ laid.1.headers) in
    let all = ap (λ (faults : List Fault). with_between faults c.as_slice-between.result.now (trust_findings_of (bytes_of c.new-view.result) c.headers.result)) others
    ∙ ap (λ (faults : List Fault). with_between others_are faults (trust_findings_of (bytes_of c.new-view.result) c.headers.result)) between
    ∙ ap (with_between others_are between_are) own in
    let told = c.tell_all_findings in
    table_accepted _ _ (λ r. r) fault_record _ _ _ _ _ _ _ laid.0
    (subst (λ (faults : List Fault). TellsTable (λ r. r) fault_record faults c.args.rows.now told.new.rows told.new.count told.result) all told.ensures)

-- memory is allocated for the findings of the file's tables
takes : (layout : Layout) (file bytes : List ℕ) → IsLayoutOf file 0 layout → bytes ≡ file
    → TablesWantMemory bytes (headers_of layout) (image_of layout) → TablesWantMemory file (head_of file) (image_of_file 0 file)
takes layout file bytes of same wants =
    subst (λ (i : LaidOut). TablesWantMemory file (head_of file) i) of.shows
    (subst (λ (h : Headers). TablesWantMemory file h (image_of layout)) of.headers (subst (λ (b : List ℕ). TablesWantMemory b (headers_of layout) (image_of layout)) same wants))

pub returns-in-Err-table_findings : goal.returns-in-Err-table_findings
returns-in-Err-table_findings c =
    let laid = c.in-Ok.ensures in
    let wants = takes c.in-Ok.layout c.args.file.now (bytes_of c.new-view.result) laid.1 c.new-view.ensures c.in-Err-table_findings.ensures.memory in
    table_refused _ _ _ _ _ _ _ _ _ _ refusals.Memory tt (λ _. (laid.0, wants)) (refl, refl)

pub returns-in-Err : goal.returns-in-Err
returns-in-Err c =
    table_refused _ _ _ _ _ _ _ _ _ _ (refusals.Fault c.in-Err.first) c.in-Err.ensures (λ e. absurd cc e) (c.refuse.ensures.status, c.refuse.ensures.told)
