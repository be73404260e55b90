-- The headers follow one another without a gap.
use Rattle.std.proofs.Common.{◌≡◌, ◌∙◌, ◌+◌, ◌*◌, Some, ap, sym, arith}
use Rattle.std.specs.Prelude.{option_map}
use Rattle.std.proofs.lemmas.Option.{slice_get-map}
use Rattle.coff_read.specs.Forms.{Big, section_count}
use Rattle.pe_head.specs.Section.{section_header}
use Rattle.coff_read.specs.BigObjectFile.{big_file_of}
use Rattle.coff_read.specs.FormReading.{section_start, section_starts}
use Rattle.coff_read.proofs.Walk.{made_at, made_none}
use Rattle.coff_read.proofs.big_file.BigObjectFile.section_header.Goals as goal

pub returns-then-index-self : goal.returns-then-index-self
returns-then-index-self c =
    let file = big_file_of c.args.self.now in
    let past = c.if-index-self.true in
    let count = c.args.self.now.stand.sections in
    sym (slice_get-map (section_header file) (section_starts Big file) c.args.index ∙ ap (option_map (section_header file)) (made_none (section_start Big file) 0 (section_count Big file) c.args.index (omega (arith, past, count))))

pub returns : goal.returns
returns c =
    let file = big_file_of c.args.self.now in
    let under = c.if-index-self.false in
    let count = c.args.self.now.stand.sections in
    let headers = c.args.self.now.stand.headers in
    let at : section_start Big file c.args.index ≡ c.args.self.now.tables.headers + 40 * c.args.index = omega arith in
    ap Some (c.read.ensures ∙ ap (section_header file) (sym at))
    ∙ sym (slice_get-map (section_header file) (section_starts Big file) c.args.index ∙ ap (option_map (section_header file)) (made_at (section_start Big file) (section_count Big file) c.args.index (omega (arith, under, count))))
