-- Section by section.
use denote.Param.{number}
use Rattle.std.proofs.Common.{◌≡◌, ◌+◌, ◌*◌, ◌≤◌, ◌<◌, ℕ, None, Some, length, ap, subst, arith}
use Rattle.std.specs.Prelude.{map}
use Rattle.std.specs.List.{flat_map}
use Rattle.std.proofs.lemmas.Result.{err_from_is_err_and}
use Rattle.pe_view.specs.Faults.{first_standing}
use Rattle.pe_view.specs.View.{bytes_of}
use Rattle.coff_read.specs.Field.{field}
use Rattle.coff_read.specs.FormFaults.{section_tests, relocation_tests}
use Rattle.coff_read.specs.FormReading.{section_start, section_starts}
use Rattle.coff_read.specs.Reading.{relocation_start}
use Rattle.coff_read.specs.contracts.file.check_all_relocations.{BIG-type}
use Rattle.coff_read.proofs.Walk.{range_left, pass, stop, relocations_fit, first_none}
use Rattle.coff_read.proofs.file.check_all_relocations.Goals as goal

pub check_relocations-requires-clause-fits : goal.check_relocations-requires-clause-fits
check_relocations-requires-clause-fits g c =
    let big = BIG-type (number g.row.BIG) in
    let file = bytes_of c.args.view in
    let i : ℕ = c.loop-i.i in
    let headers = c.requires.tables.headers in
    let at : section_start big file i ≡ c.args.tables.headers + 40 * i = omega arith in
    let step = ap (map (section_start big file)) (range_left i c.args.tables.sections c.loop-i-test.true) in
    let sound = first_none (section_tests big file) (section_start big file i) _ _ step c.loop-i.invariant.sound in
    subst (λ (h : ℕ). 0 < field file h 32 2 → relocation_start file h (field file h 32 2) ≤ length file) at (relocations_fit big file (section_start big file i) sound.0)

pub returns-in_err-check_relocations : goal.returns-in_err-check_relocations
returns-in_err-check_relocations g c =
    let big = BIG-type (number g.row.BIG) in
    let file = bytes_of c.args.view in
    let i : ℕ = c.loop-i.i in
    let headers = c.requires.tables.headers in
    let at : c.args.tables.headers + 40 * i ≡ section_start big file i = omega arith in
    let step = ap (map (section_start big file)) (range_left i c.args.tables.sections c.loop-i-test.true) in
    let p = err_from_is_err_and c.from_residual.result c.from_residual.ensures.1 in
    rw (p.1, p.2) (stop (relocation_tests big file) (section_start big file i) _ _ (flat_map (relocation_tests big file) (section_starts big file)) _ step
    (subst (λ (h : ℕ). first_standing (relocation_tests big file h) ≡ Some c.in_err-check_relocations.field-0.0) at c.in_err-check_relocations.ensures) c.loop-i.invariant.first)

pub loop-i-preserved : goal.loop-i-preserved
loop-i-preserved g c =
    let big = BIG-type (number g.row.BIG) in
    let file = bytes_of c.args.view in
    let i : ℕ = c.loop-i.i in
    let headers = c.requires.tables.headers in
    let at : c.args.tables.headers + 40 * i ≡ section_start big file i = omega arith in
    let step = ap (map (section_start big file)) (range_left i c.args.tables.sections c.loop-i-test.true) in
    let none = subst (λ (h : ℕ). first_standing (relocation_tests big file h) ≡ None) at c.in_ok-check_relocations.ensures.0 in
    record {
      first = pass (relocation_tests big file) (section_start big file i) _ _ (flat_map (relocation_tests big file) (section_starts big file)) step none c.loop-i.invariant.first;
      sound = (first_none (section_tests big file) (section_start big file i) _ _ step c.loop-i.invariant.sound).1;
    }
