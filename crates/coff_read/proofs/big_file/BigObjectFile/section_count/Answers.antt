use Rattle.std.proofs.Common.{◌∙◌, sym}
use Rattle.std.proofs.lemmas.List.{length-map}
use Rattle.std.proofs.lemmas.List.FromFn.{length-map-range_with_len}
use Rattle.coff_read.specs.Forms.{Big, section_count}
use Rattle.coff_read.specs.BigObjectFile.{big_file_of}
use Rattle.coff_read.specs.FormReading.{section_in, section_start, section_starts}
use Rattle.coff_read.proofs.big_file.BigObjectFile.section_count.Goals as goal

pub returns : goal.returns
returns c =
    let file = big_file_of c.args.self.now in
    c.args.self.now.stand.sections ∙ sym (length-map (section_starts Big file) (section_in Big file) ∙ length-map-range_with_len (section_start Big file) 0 (section_count Big file))
