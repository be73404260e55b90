-- One descriptor after the other.
use Rattle.std.proofs.Common.{◌≡◌, ◌≢◌, ◌∙◌, ◌+◌, ◌++◌, ℕ, [], sym, ap, subst}
use Rattle.std.proofs.lemmas.Result.{err_from_is_err_and}
use Rattle.pe_view.specs.Standing.{standing}
use Rattle.pe_view.specs.AllStanding.{adds_wants}
use Rattle.pe_layout.specs.Layout.{image_of}
use Rattle.pe_delay.specs.Descriptors.{delay_descriptors}
use Rattle.pe_delay.specs.Entries.{entry_count}
use Rattle.pe_delay.specs.Findings.{descriptors_tests}
use Rattle.pe_delay.specs.Left.{descriptors_left}
use Rattle.pe_delay.specs.Tables.{tables_of}
use Rattle.pe_delay.specs.declared.tables.Tables.{Tables}
use Rattle.pe_delay.proofs.Found.{found_more, some_here, some_later}
use Rattle.pe_delay.proofs.findings.find_descriptors.Goals as goal

pub loop-descriptor-preserved : goal.loop-descriptor-preserved
loop-descriptor-preserved g c =
    let i = image_of c.args.layout.now in
    let d = c.in-Some.descriptor in
    let read : ℕ = c.loop-descriptor.read in
    let inv = c.loop-descriptor.invariant in
    let steps = c.in-Some.ensures.steps in
    let counted : read + c.count_entries-count.result ≡ read + entry_count i (tables_of i d) read =
    ap (λ (n : ℕ). read + n) c.count_entries-count.ensures.count ∙ ap (λ (t : Tables). read + entry_count i t read) c.tables_of-tables.ensures in
    let more = found_more i read d _ _ steps c.loop-descriptor.findings.items c.find_descriptor.new.findings.items _ c.in_ok-find_descriptor.ensures.adds inv.0 in (
      subst (λ (n : ℕ). c.find_descriptor.new.findings.items ++ standing (descriptors_tests i n (descriptors_left c.next.new.self)) ≡ c.args.findings.now.items ++ standing (descriptors_tests i 0 (delay_descriptors i))) (sym counted) more,
      (λ some. inv.1 (some_later i read d _ _ steps (subst (λ (n : ℕ). standing (descriptors_tests i n (descriptors_left c.next.new.self)) ≢ []) counted some))),
      c.find_descriptor.ensures.known,
      c.count_entries-count.ensures.few,
    )

pub returns-in_err-find_descriptor : goal.returns-in_err-find_descriptor
returns-in_err-find_descriptor g c =
    let i = image_of c.args.layout.now in
    let inv = c.loop-descriptor.invariant in
    let all = descriptors_tests i 0 (delay_descriptors i) in
    let some : standing all ≢ [] = inv.1 (some_here i c.loop-descriptor.read c.in-Some.descriptor _ _ c.in-Some.ensures.steps c.in_err-find_descriptor.ensures.adds) in
    let p = err_from_is_err_and c.from_residual.result c.from_residual.ensures.1 in
    adds_wants all c.args.findings.now.items c.find_descriptor.new.findings.items c.from_residual.result p.0 p.1 some
