use Rattle.std.proofs.Common.{ℕ, Bool, List, subst}
use Rattle.coff_read.specs.ImageSymbols.{image_symbols}
use Rattle.coff_read.specs.Records.{Symbol}
use Rattle.pe_text.specs.TextWriter.{Adds}
use Rattle.pe_view.specs.View.{bytes_of}
use Rattle.pe_json.specs.Listed.{more}
use Rattle.pe_json.specs.SymbolRows.{symbols_unless}
use Rattle.pe_json.proofs.image_symbols.write_image_symbols.Goals as goal

pub returns : goal.returns
returns g c =
    let old = c.args.text.now in
    let new = c.write_unless.new.text in
    let symbols = image_symbols (bytes_of c.args.file) c.args.headers.now in
    subst (λ (left_out : Bool). Adds g.W.Sink.taken g.W.Sink.failures old new (more (symbols_unless left_out symbols))) c.is_left_out.ensures
    (subst (λ (all : List (ℕ × Symbol)). Adds g.W.Sink.taken g.W.Sink.failures old new (more (symbols_unless c.is_left_out.result all))) c.new.ensures c.write_unless.ensures)
