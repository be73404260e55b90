use Rattle.std.proofs.Common.{◌∙◌, sym}
use Rattle.std.proofs.lemmas.List.{length-map}
use Rattle.coff_read.specs.BigObjectFile.{big_file_of}
use Rattle.coff_read.specs.Forms.{Big}
use Rattle.coff_read.specs.FormReading.{record_start, symbol_at, symbol_indexes}
use Rattle.coff_read.proofs.big_file.BigObjectFile.symbol_count.Goals as goal

pub returns : goal.returns
returns c =
    let file = big_file_of c.args.self.now in
    c.args.self.now.counted ∙ sym (length-map (symbol_indexes Big file) (λ k. symbol_at Big file (record_start Big file k)))
