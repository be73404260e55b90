-- Section by section.
use denote.Param.{number}
use Rattle.std.proofs.Common.{◌≡◌, ◌+◌, ◌*◌, ℕ, None, Some, ap, subst, arith}
use Rattle.std.specs.Prelude.{map}
use Rattle.std.specs.List.{flat_map}
use Rattle.std.proofs.lemmas.Result.{err_from_is_err_and}
use Rattle.pe_view.specs.Faults.{first_standing}
use Rattle.pe_view.specs.View.{bytes_of}
use Rattle.coff_read.specs.FormFaults.{section_tests}
use Rattle.coff_read.specs.FormReading.{section_start, section_starts}
use Rattle.coff_read.specs.contracts.section.check_sections.{BIG-type}
use Rattle.coff_read.proofs.Walk.{range_left, pass, stop}
use Rattle.coff_read.proofs.section.check_sections.Goals as goal

pub returns-in_err-check_section : goal.returns-in_err-check_section
returns-in_err-check_section g c =
    let big = BIG-type (number g.row.BIG) in
    let file = bytes_of c.args.view in
    let i : ℕ = c.loop-i.i in
    let headers = c.requires.headers in
    let at : c.args.tables.headers + 40 * i ≡ section_start big file i = omega arith in
    let step = ap (map (section_start big file)) (range_left i c.args.tables.sections c.loop-i-test.true) in
    let p = err_from_is_err_and c.from_residual.result c.from_residual.ensures.1 in
    rw (p.1, p.2) (stop (section_tests big file) (section_start big file i) _ _ (flat_map (section_tests big file) (section_starts big file)) _ step
    (subst (λ (h : ℕ). first_standing (section_tests big file h) ≡ Some c.in_err-check_section.field-0.0) at c.in_err-check_section.ensures) c.loop-i.invariant.first)

pub loop-i-preserved : goal.loop-i-preserved
loop-i-preserved g c =
    let big = BIG-type (number g.row.BIG) in
    let file = bytes_of c.args.view in
    let i : ℕ = c.loop-i.i in
    let headers = c.requires.headers in
    let at : c.args.tables.headers + 40 * i ≡ section_start big file i = omega arith in
    let step = ap (map (section_start big file)) (range_left i c.args.tables.sections c.loop-i-test.true) in
    let none = subst (λ (h : ℕ). first_standing (section_tests big file h) ≡ None) at c.in_ok-check_section.ensures.0 in
    record { first = pass (section_tests big file) (section_start big file i) _ _ (flat_map (section_tests big file) (section_starts big file)) step none c.loop-i.invariant.first }
