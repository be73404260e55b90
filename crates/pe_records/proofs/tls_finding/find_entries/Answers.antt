use Rattle.std.proofs.Common.{◌≡◌, ◌≢◌, ◌∙◌, ◌+◌, ◌*◌, ◌++◌, ◌<◌, ℕ, Bool, [], ◌∷◌, Some, sym, ap, zero-add}
use Rattle.std.proofs.lemmas.Result.{err_from_is_err_and}
use Rattle.pe_view.specs.declared.fault.Place.TheVariants.{Rva}
use Rattle.pe_view.specs.Faults.{test}
use Rattle.pe_view.specs.Standing.{standing}
use Rattle.pe_view.specs.AllStanding.{adds_wants}
use Rattle.pe_layout.specs.Layout.{image_of}
use Rattle.pe_records.specs.Address.{leads_nowhere}
use Rattle.pe_records.specs.Callbacks.{callback_count, entries_tests, entry_at, entry_tests}
use Rattle.pe_records.specs.CallbackView.{callback_table}
use Rattle.pe_records.proofs.Found.{records_more}
use Rattle.pe_records.proofs.Wanting.{some_of}
use Rattle.pe_records.proofs.Rows.{made_at}
use Rattle.pe_records.proofs.tls_finding.find_entries.Goals as goal

pub loop-index-preserved : goal.loop-index-preserved
loop-index-preserved g c =
    let i = image_of c.args.layout.now in
    let r = c.args.callbacks.now in
    let t = callback_table r in
    let k : ℕ = c.loop-index.index in
    let old = c.loop-index.findings.items in
    let counted = r.counted in
    let under : k < r.count = c.loop-index-test.true in
    let got : c.get.result ≡ Some (entry_at t.address t.bytes k) = c.get.ensures ∙ made_at (entry_at t.address t.bytes) (callback_count t.address t.bytes) k (rw counted at under) in
    let found : c.add.new.findings.items ≡ old ++ standing (entry_tests i t k) =
    c.in_ok-add.ensures
    ∙ ap (λ (n : ℕ). old ++ standing (test 136 n (Rva c.rva.result) c.leads_nowhere.result ∷ [])) c.image.ensures
    ∙ ap (λ (p : ℕ). old ++ standing (test 136 i.number (Rva p) c.leads_nowhere.result ∷ [])) c.rva.ensures
    ∙ ap (λ (b : Bool). old ++ standing (test 136 i.number (Rva (t.start + t.address * k)) b ∷ [])) (c.leads_nowhere.ensures ∙ ap (leads_nowhere i) got) in
    records_more (entry_tests i t) k c.args.findings.now.items old c.add.new.findings.items c.loop-index.invariant found

pub returns-in_err-add : goal.returns-in_err-add
returns-in_err-add g c =
    let i = image_of c.args.layout.now in
    let r = c.args.callbacks.now in
    let t = callback_table r in
    let k : ℕ = c.loop-index.index in
    let counted = r.counted in
    let under : k < r.count = c.loop-index-test.true in
    let less : k < callback_count t.address t.bytes = rw counted at under in
    let got : c.get.result ≡ Some (entry_at t.address t.bytes k) = c.get.ensures ∙ made_at (entry_at t.address t.bytes) (callback_count t.address t.bytes) k less in
    let same : standing (test 136 c.image.result (Rva c.rva.result) c.leads_nowhere.result ∷ []) ≡ standing (entry_tests i t (0 + k)) =
    ap (λ (n : ℕ). standing (test 136 n (Rva c.rva.result) c.leads_nowhere.result ∷ [])) c.image.ensures
    ∙ ap (λ (p : ℕ). standing (test 136 i.number (Rva p) c.leads_nowhere.result ∷ [])) c.rva.ensures
    ∙ ap (λ (b : Bool). standing (test 136 i.number (Rva (t.start + t.address * k)) b ∷ [])) (c.leads_nowhere.ensures ∙ ap (leads_nowhere i) got)
    ∙ ap (λ (n : ℕ). standing (entry_tests i t n)) (sym (zero-add k)) in
    let some : standing (entries_tests i t) ≢ [] = some_of (entry_tests i t) 0 (callback_count t.address t.bytes) k less (λ none. c.in_err-add.ensures (same ∙ none)) in
    let p = err_from_is_err_and c.from_residual.result c.from_residual.ensures.1 in
    adds_wants (entries_tests i t) c.args.findings.now.items c.add.new.findings.items c.from_residual.result p.0 p.1 some
