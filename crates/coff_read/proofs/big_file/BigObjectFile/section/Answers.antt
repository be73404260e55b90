-- No section of an accepted file has a fault.
use Rattle.std.proofs.Common.{◌≡◌, ◌∙◌, ℕ, ◌+◌, ◌*◌, None, Some, ap, sym, subst, arith}
use Rattle.std.specs.Prelude.{option_map}
use Rattle.std.proofs.lemmas.Option.{slice_get-map}
use Rattle.pe_view.specs.Faults.{first_standing}
use Rattle.coff_read.specs.Forms.{Big, section_count}
use Rattle.coff_read.specs.FormFaults.{section_tests}
use Rattle.coff_read.specs.BigObjectFile.{big_file_of}
use Rattle.coff_read.specs.FormReading.{section_in, section_start, section_starts}
use Rattle.coff_read.proofs.Walk.{none_among, made_at, made_none}
use Rattle.coff_read.proofs.FormTable.{form_stands}
use Rattle.coff_read.proofs.big_file.BigObjectFile.section.Goals as goal

pub returns-then-index-self : goal.returns-then-index-self
returns-then-index-self c =
    let file = big_file_of c.args.self.now in
    let past = c.if-index-self.true in
    let count = c.args.self.now.stand.sections in
    sym (slice_get-map (section_in Big file) (section_starts Big file) c.args.index ∙ ap (option_map (section_in Big file)) (made_none (section_start Big file) 0 (section_count Big file) c.args.index (omega (arith, past, count))))

pub section_at-requires-clause-none : goal.section_at-requires-clause-none
section_at-requires-clause-none c =
    let file = big_file_of c.args.self.now in
    let under = c.if-index-self.false in
    let count = c.args.self.now.stand.sections in
    let headers = c.args.self.now.stand.headers in
    let at : section_start Big file (0 + c.args.index) ≡ c.args.self.now.tables.headers + 40 * c.args.index = omega arith in
    subst (λ (h : ℕ). first_standing (section_tests Big file h) ≡ None) at
    (none_among (section_tests Big file) (section_start Big file) 0 (section_count Big file) c.args.index (form_stands Big file c.args.self.now.accepted).sections (omega (arith, under, count)))

pub returns : goal.returns
returns c =
    let file = big_file_of c.args.self.now in
    let under = c.if-index-self.false in
    let count = c.args.self.now.stand.sections in
    let headers = c.args.self.now.stand.headers in
    let at : section_start Big file c.args.index ≡ c.args.self.now.tables.headers + 40 * c.args.index = omega arith in
    ap Some (c.section_at.ensures ∙ ap (section_in Big file) (sym at))
    ∙ sym (slice_get-map (section_in Big file) (section_starts Big file) c.args.index ∙ ap (option_map (section_in Big file)) (made_at (section_start Big file) (section_count Big file) c.args.index (omega (arith, under, count))))
