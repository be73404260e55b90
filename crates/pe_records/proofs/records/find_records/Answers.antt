use Rattle.std.proofs.Common.{◌≡◌, ◌≢◌, ◌∙◌, ◌+◌, ◌*◌, ◌/◌, ◌<◌, ◌++◌, ℕ, [], Some, sym, ap, zero-add, arith}
use Rattle.std.proofs.lemmas.Result.{err_from_is_err_and}
use Rattle.std.proofs.lemmas.Option.{same_Some}
use Rattle.std.specs.List.{flat_map, range_with_len}
use Rattle.pe_view.specs.View.{bytes_of, size_of}
use Rattle.pe_view.specs.Standing.{standing}
use Rattle.pe_view.specs.AllStanding.{adds_wants}
use Rattle.pe_layout.specs.Layout.{image_of}
use Rattle.pe_records.specs.TableTests.{record_tests, records_tests}
use Rattle.pe_records.proofs.Rows.{made_at, record_fits}
use Rattle.pe_records.proofs.Found.{records_more}
use Rattle.pe_records.proofs.Wanting.{some_of}
use Rattle.pe_records.proofs.records.find_records.Goals as goal

pub unwrap-record-requires : goal.unwrap-record-requires
unwrap-record-requires g c =
    let R = g.R.Record in
    let r = c.args.records.now in
    let counted = r.counted in
    let under : c.loop-index.index < r.count = c.loop-index-test.true in
    let got : c.get.result ≡ Some (R.record_at (bytes_of r.table) (R.LEN * c.loop-index.index)) =
    c.get.ensures ∙ made_at (λ (n : ℕ). R.record_at (bytes_of r.table) (R.LEN * n)) (size_of r.table / R.LEN) c.loop-index.index (rw counted at under) in
    rw got

pub overflow_mul-LEN : goal.overflow_mul-LEN
overflow_mul-LEN g c =
    let R = g.R.Record in
    let r = c.args.records.now in
    let counted = r.counted in
    let under : c.loop-index.index < r.count = c.loop-index-test.true in
    let fits = record_fits R.LEN c.loop-index.index (size_of r.table) (rw counted at under) in
    let some = g.met.R.Record.some in
    let inside = r.inside (omega (arith, fits, some)) in
    rw c.LEN.ensures (omega (arith, fits, inside))

pub overflow_add-records : goal.overflow_add-records
overflow_add-records g c =
    let R = g.R.Record in
    let r = c.args.records.now in
    let counted = r.counted in
    let under : c.loop-index.index < r.count = c.loop-index-test.true in
    let fits = record_fits R.LEN c.loop-index.index (size_of r.table) (rw counted at under) in
    let some = g.met.R.Record.some in
    let inside = r.inside (omega (arith, fits, some)) in
    rw c.LEN.ensures (omega (arith, fits, inside))

pub loop-index-preserved : goal.loop-index-preserved
loop-index-preserved g c =
    let R = g.R.Record in
    let r = c.args.records.now in
    let i = image_of c.args.layout.now in
    let file = bytes_of c.args.file in
    let bytes = bytes_of r.table in
    let k : ℕ = c.loop-index.index in
    let old = c.loop-index.findings.items in
    let counted = r.counted in
    let under : k < r.count = c.loop-index-test.true in
    let got : Some c.unwrap-record.result ≡ Some (R.record_at bytes (R.LEN * k)) =
    sym c.unwrap-record.ensures ∙ c.get.ensures ∙ made_at (λ (n : ℕ). R.record_at bytes (R.LEN * n)) (size_of r.table / R.LEN) k (rw counted at under) in
    let is : c.unwrap-record.result ≡ R.record_at bytes (R.LEN * k) = same_Some _ _ got in
    let found : c.find.new.findings.items ≡ old ++ standing (record_tests R.record_at R.tests R.LEN i file bytes r.start k) =
    c.in_ok-find.ensures
    ∙ ap (λ (n : ℕ). old ++ standing (R.tests i file c.before-before.result c.unwrap-record.result (r.start + n * k))) c.LEN.ensures
    ∙ ap (λ (x : _). old ++ standing (R.tests i file c.before-before.result x (r.start + R.LEN * k))) is
    ∙ ap (λ (o : _). old ++ standing (R.tests i file o (R.record_at bytes (R.LEN * k)) (r.start + R.LEN * k))) c.before-before.ensures in
    records_more (record_tests R.record_at R.tests R.LEN i file bytes r.start) k c.args.findings.now.items old c.find.new.findings.items c.loop-index.invariant found

pub returns-in_err-find : goal.returns-in_err-find
returns-in_err-find g c =
    let R = g.R.Record in
    let r = c.args.records.now in
    let i = image_of c.args.layout.now in
    let file = bytes_of c.args.file in
    let bytes = bytes_of r.table in
    let k : ℕ = c.loop-index.index in
    let counted = r.counted in
    let under : k < r.count = c.loop-index-test.true in
    let got : Some c.unwrap-record.result ≡ Some (R.record_at bytes (R.LEN * k)) =
    sym c.unwrap-record.ensures ∙ c.get.ensures ∙ made_at (λ (n : ℕ). R.record_at bytes (R.LEN * n)) (size_of r.table / R.LEN) k (rw counted at under) in
    let is : c.unwrap-record.result ≡ R.record_at bytes (R.LEN * k) = same_Some _ _ got in
    let tests = record_tests R.record_at R.tests R.LEN i file bytes r.start in
    let same : standing (R.tests i file c.before-before.result c.unwrap-record.result (r.start + c.LEN.result * k)) ≡ standing (tests (0 + k)) =
    ap (λ (n : ℕ). standing (R.tests i file c.before-before.result c.unwrap-record.result (r.start + n * k))) c.LEN.ensures
    ∙ ap (λ (x : _). standing (R.tests i file c.before-before.result x (r.start + R.LEN * k))) is
    ∙ ap (λ (o : _). standing (R.tests i file o (R.record_at bytes (R.LEN * k)) (r.start + R.LEN * k))) c.before-before.ensures
    ∙ ap (λ (n : ℕ). standing (tests n)) (sym (zero-add k)) in
    let less : k < size_of r.table / R.LEN = rw counted at under in
    let all = records_tests R.record_at R.tests R.LEN i file bytes r.start in
    let some : standing all ≢ [] = some_of tests 0 (size_of r.table / R.LEN) k less (λ none. c.in_err-find.ensures (same ∙ none)) in
    let p = err_from_is_err_and c.from_residual.result c.from_residual.ensures.1 in
    adds_wants all c.args.findings.now.items c.find.new.findings.items c.from_residual.result p.0 p.1 some

pub returns : goal.returns
returns g c =
    let R = g.R.Record in
    let r = c.args.records.now in
    let i = image_of c.args.layout.now in
    let past = c.loop-index-test.false in
    let up_to = c.loop-index.auto.index-end in
    let all : c.loop-index.index ≡ r.count = omega (arith, past, up_to) in
    c.loop-index.invariant
    ∙ ap (λ (n : ℕ). c.args.findings.now.items ++ standing (flat_map (record_tests R.record_at R.tests R.LEN i (bytes_of c.args.file) (bytes_of r.table) r.start) (range_with_len 0 n))) (all ∙ r.counted)
