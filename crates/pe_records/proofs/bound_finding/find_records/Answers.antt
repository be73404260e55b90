use Rattle.std.proofs.Common.{◌≡◌, ◌≢◌, ◌∙◌, ◌+◌, ◌*◌, ◌<◌, ◌++◌, ℕ, Bool, [], ◌∷◌, sym, ap, zero-add}
use Rattle.std.proofs.lemmas.Result.{err_from_is_err_and}
use Rattle.pe_view.specs.declared.fault.Place.TheVariants.{Rva}
use Rattle.pe_view.specs.Faults.{test}
use Rattle.pe_view.specs.View.{bytes_of}
use Rattle.pe_view.specs.Standing.{standing}
use Rattle.pe_view.specs.AllStanding.{adds_wants}
use Rattle.pe_layout.specs.Layout.{image_of}
use Rattle.pe_records.specs.BoundImportTests.{record_tests, records_tests}
use Rattle.pe_records.specs.Callbacks.{callback_count}
use Rattle.pe_records.proofs.Found.{records_more}
use Rattle.pe_records.proofs.Wanting.{some_of}
use Rattle.pe_records.proofs.bound_finding.find_records.Goals as goal

pub loop-index-preserved : goal.loop-index-preserved
loop-index-preserved g c =
    let i = image_of c.args.layout.now in
    let r = c.args.imports.now in
    let k : ℕ = c.loop-index.index in
    let old = c.loop-index.findings.items in
    let found : c.add.new.findings.items ≡ old ++ standing (record_tests i r.start (bytes_of r.table) k) =
    c.in_ok-add.ensures
    ∙ ap (λ (n : ℕ). old ++ standing (test 152 n (Rva (r.start + 8 * k)) c.strays.result ∷ [])) c.image.ensures
    ∙ ap (λ (b : Bool). old ++ standing (test 152 i.number (Rva (r.start + 8 * k)) b ∷ [])) c.strays.ensures in
    records_more (record_tests i r.start (bytes_of r.table)) k c.args.findings.now.items old c.add.new.findings.items c.loop-index.invariant found

pub returns-in_err-add : goal.returns-in_err-add
returns-in_err-add g c =
    let i = image_of c.args.layout.now in
    let r = c.args.imports.now in
    let k : ℕ = c.loop-index.index in
    let counted = r.counted in
    let under : k < r.count = c.loop-index-test.true in
    let tests = record_tests i r.start (bytes_of r.table) in
    let same : standing (test 152 c.image.result (Rva (r.start + 8 * k)) c.strays.result ∷ []) ≡ standing (tests (0 + k)) =
    ap (λ (n : ℕ). standing (test 152 n (Rva (r.start + 8 * k)) c.strays.result ∷ [])) c.image.ensures
    ∙ ap (λ (b : Bool). standing (test 152 i.number (Rva (r.start + 8 * k)) b ∷ [])) c.strays.ensures
    ∙ ap (λ (n : ℕ). standing (tests n)) (sym (zero-add k)) in
    let less : k < callback_count 8 (bytes_of r.table) = rw counted at under in
    let all = records_tests i r.start (bytes_of r.table) in
    let some : standing all ≢ [] = some_of tests 0 (callback_count 8 (bytes_of r.table)) k less (λ none. c.in_err-add.ensures (same ∙ none)) in
    let p = err_from_is_err_and c.from_residual.result c.from_residual.ensures.1 in
    adds_wants all c.args.findings.now.items c.add.new.findings.items c.from_residual.result p.0 p.1 some
