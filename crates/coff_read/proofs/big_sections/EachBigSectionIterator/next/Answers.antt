-- The section of the current header, and the next header.
use Rattle.std.proofs.Common.{◌≡◌, ◌∙◌, ℕ, ◌+◌, ◌-◌, ◌*◌, List, ◌∷◌, None, length, ap, sym, subst, arith}
use Rattle.std.specs.Prelude.{map}
use Rattle.std.specs.List.{range_with_len}
use Rattle.pe_view.specs.Faults.{first_standing}
use Rattle.pe_view.specs.View.{bytes_of}
use Rattle.coff_read.specs.Forms.{Big, section_count}
use Rattle.coff_read.specs.FormFaults.{section_tests}
use Rattle.coff_read.specs.FormReading.{section_in, section_start}
use Rattle.coff_read.specs.Records as format
use Rattle.coff_read.proofs.Walk.{none_among, range_left}
use Rattle.coff_read.proofs.big_sections.EachBigSectionIterator.next.Goals as goal

pub section_at-requires-clause-none : goal.section_at-requires-clause-none
section_at-requires-clause-none g c =
    let s = c.args.self.now in
    let file = bytes_of s.view in
    let under = c.if-self.false in
    let count = s.stand.sections in
    let headers = s.stand.headers in
    let at : section_start Big file (0 + s.next) ≡ s.tables.headers + 40 * s.next = omega arith in
    subst (λ (h : ℕ). first_standing (section_tests Big file h) ≡ None) at (none_among (section_tests Big file) (section_start Big file) 0 (section_count Big file) s.next s.sound (omega (arith, under, count)))

pub returns-clause-steps : goal.returns-clause-steps
returns-clause-steps g c =
    let s = c.args.self.now in
    let file = bytes_of s.view in
    let under = c.if-self.false in
    let headers = s.stand.headers in
    let at : s.tables.headers + 40 * s.next ≡ section_start Big file s.next = omega arith in
    let rest : List format.Section = map (section_in Big file) (map (section_start Big file) (range_with_len (s.next + 1) (s.tables.sections - (s.next + 1)))) in
    ap (λ (hs : List ℕ). map (section_in Big file) (map (section_start Big file) hs)) (range_left s.next s.tables.sections (omega (arith, under)))
    ∙ ap (λ (section : format.Section). section ∷ rest) (sym (c.section_at.ensures ∙ ap (section_in Big file) at))

pub returns-clause-goes : goal.returns-clause-goes
returns-clause-goes g c =
    let one = ap (λ (left : List format.Section). length left) (returns-clause-steps g c) in
    record { on = λ finite. (tt, tt, omega (arith, one)); keeps = tt; rests = λ finite. tt }
