-- Section by section.
use denote.Param.{number}
use Rattle.std.proofs.Common.{◌≡◌, ◌∙◌, ◌+◌, ◌*◌, ℕ, None, ap, subst, arith}
use Rattle.std.specs.Prelude.{map}
use Rattle.pe_view.specs.Faults.{first_standing}
use Rattle.pe_view.specs.View.{bytes_of}
use Rattle.coff_read.specs.Forms.{section_count}
use Rattle.coff_read.specs.FormFaults.{section_tests}
use Rattle.coff_read.specs.ObjectView.{section_view}
use Rattle.coff_read.specs.FormReading.{section_in, section_start}
use Rattle.coff_read.specs.contracts.section.read_sections.{BIG-type}
use Rattle.coff_read.proofs.Walk.{range_left, read_more, all_read, none_among}
use Rattle.coff_read.proofs.section.read_sections.Goals as goal

pub section_at-requires-clause-none : goal.section_at-requires-clause-none
section_at-requires-clause-none g c =
    let big = BIG-type g.row.A (number g.row.BIG) in
    let file = bytes_of c.args.view in
    let i : ℕ = c.loop-i.i in
    let headers = c.requires.tables.headers in
    let count = c.requires.tables.sections in
    let under = c.loop-i-test.true in
    let at : section_start big file (0 + i) ≡ c.args.tables.headers + 40 * i = omega arith in
    subst (λ (h : ℕ). first_standing (section_tests big file h) ≡ None) at (none_among (section_tests big file) (section_start big file) 0 (section_count big file) i c.requires.none (omega (arith, under, count)))

pub loop-i-preserved : goal.loop-i-preserved
loop-i-preserved g c =
    let big = BIG-type g.row.A (number g.row.BIG) in
    let file = bytes_of c.args.view in
    let i : ℕ = c.loop-i.i in
    let headers = c.requires.tables.headers in
    let at : c.args.tables.headers + 40 * i ≡ section_start big file i = omega arith in
    let step = ap (map (section_start big file)) (range_left i c.args.tables.sections c.loop-i-test.true) in
    record {
      known = c.name_kept-name.ensures.known;
      read = read_more section_view (section_in big file) (section_start big file i) _ _ _ _ _ _ step c.in_ok-push.ensures.items
          (c.in_ok-read_section.ensures ∙ c.section_at.ensures ∙ ap (section_in big file) at) c.loop-i.invariant.read;
    }

pub returns-clause-sections : goal.returns-clause-sections
returns-clause-sections g c =
    let big = BIG-type g.row.A (number g.row.BIG) in
    let file = bytes_of c.args.view in
    all_read (section_in big file) (section_start big file) c.loop-i.i c.args.tables.sections _ _ c.loop-i-test.false c.loop-i.invariant.read
