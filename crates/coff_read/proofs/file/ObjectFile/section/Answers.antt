-- No section of an accepted file has a fault.
use Rattle.std.proofs.Common.{◌≡◌, ◌∙◌, ℕ, ◌+◌, ◌*◌, None, Some, ap, sym, subst, arith}
use Rattle.std.specs.Prelude.{option_map}
use Rattle.std.proofs.lemmas.Option.{slice_get-map}
use Rattle.pe_view.specs.Faults.{first_standing}
use Rattle.coff_read.specs.Field.{field}
use Rattle.coff_read.specs.ObjectFaults.{section_tests}
use Rattle.coff_read.specs.ObjectFile.{file_of}
use Rattle.coff_read.specs.Reading.{section_in, section_start, section_starts}
use Rattle.coff_read.proofs.Walk.{none_among, made_at, made_none}
use Rattle.coff_read.proofs.WholeTable.{table_stands}
use Rattle.coff_read.proofs.file.ObjectFile.section.Goals as goal

pub returns-then-index-self : goal.returns-then-index-self
returns-then-index-self c =
    let file = file_of c.args.self.now in
    let past = c.if-index-self.true in
    let count = c.args.self.now.stand.sections in
    sym (slice_get-map (section_in file) (section_starts file) c.args.index ∙ ap (option_map (section_in file)) (made_none (section_start file) 0 (field file 0 2 2) c.args.index (omega (arith, past, count))))

pub section_at-requires-clause-none : goal.section_at-requires-clause-none
section_at-requires-clause-none c =
    let file = file_of c.args.self.now in
    let under = c.if-index-self.false in
    let count = c.args.self.now.stand.sections in
    let headers = c.args.self.now.stand.headers in
    let at : section_start file (0 + c.args.index) ≡ c.args.self.now.tables.headers + 40 * c.args.index = omega arith in
    subst (λ (h : ℕ). first_standing (section_tests file h) ≡ None) at
    (none_among (section_tests file) (section_start file) 0 (field file 0 2 2) c.args.index (table_stands file c.args.self.now.accepted).sections (omega (arith, under, count)))

pub returns : goal.returns
returns c =
    let file = file_of c.args.self.now in
    let under = c.if-index-self.false in
    let count = c.args.self.now.stand.sections in
    let headers = c.args.self.now.stand.headers in
    let at : section_start file c.args.index ≡ c.args.self.now.tables.headers + 40 * c.args.index = omega arith in
    ap Some (c.section_at.ensures ∙ ap (section_in file) (sym at))
    ∙ sym (slice_get-map (section_in file) (section_starts file) c.args.index ∙ ap (option_map (section_in file)) (made_at (section_start file) (field file 0 2 2) c.args.index (omega (arith, under, count))))
