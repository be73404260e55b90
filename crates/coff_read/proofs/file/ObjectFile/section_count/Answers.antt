use Rattle.std.proofs.Common.{◌∙◌, sym}
use Rattle.std.proofs.lemmas.List.{length-map}
use Rattle.std.proofs.lemmas.List.FromFn.{length-map-range_with_len}
use Rattle.coff_read.specs.Field.{field}
use Rattle.coff_read.specs.ObjectFile.{file_of}
use Rattle.coff_read.specs.Reading.{section_in, section_start, section_starts}
use Rattle.coff_read.proofs.file.ObjectFile.section_count.Goals as goal

pub returns : goal.returns
returns c =
    let file = file_of c.args.self.now in
    c.args.self.now.stand.sections ∙ sym (length-map (section_starts file) (section_in file) ∙ length-map-range_with_len (section_start file) 0 (field file 0 2 2))
