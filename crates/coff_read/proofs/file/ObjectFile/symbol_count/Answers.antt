use Rattle.std.proofs.Common.{◌∙◌, sym}
use Rattle.std.proofs.lemmas.List.{length-map}
use Rattle.coff_read.specs.ObjectFile.{file_of}
use Rattle.coff_read.specs.Reading.{record_start, symbol_at, symbol_indexes}
use Rattle.coff_read.proofs.file.ObjectFile.symbol_count.Goals as goal

pub returns : goal.returns
returns c =
    let file = file_of c.args.self.now in
    c.args.self.now.counted ∙ sym (length-map (symbol_indexes file) (λ k. symbol_at file (record_start file k)))
