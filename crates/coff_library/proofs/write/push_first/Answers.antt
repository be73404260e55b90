-- A header, the table, and what fills it up.
use Rattle.std.proofs.Common.{◌≡◌, ◌∷◌, [], length, arith}
use Rattle.std.specs.Prelude.{map}
use Rattle.std.proofs.lemmas.Result.{on_ok_weaker}
use Rattle.coff_library.specs.SymbolView.{symbol_view}
use Rattle.coff_library.specs.Written.{first_table}
use Rattle.coff_library.proofs.Records.{record_written}
use Rattle.coff_library.proofs.TablesRead.{length-first}
use Rattle.coff_library.proofs.write.push_first.Goals as goal

pub returns : goal.returns
returns g c =
    let symbols = map symbol_view c.args.symbols.now in
    let len = length-first c.args.offsets.now symbols in
    let fits = c.requires.size in
    let counted_size = c.first_size-size.ensures in
    let size : c.first_size-size.result ≡ length (first_table c.args.offsets.now symbols) = omega (arith, len, fits, counted_size) in
    on_ok_weaker c.push_pad.result
    (record_written _ _ _ _ (47 ∷ []) (first_table c.args.offsets.now symbols) c.first_size-size.result size c.in_ok-push_header.ensures c.in_ok-push_first_table.ensures) c.push_pad.ensures
