-- A header, the table, and what fills it up.
use Rattle.std.proofs.Common.{◌≡◌, ◌∷◌, [], length, arith}
use Rattle.std.specs.Prelude.{map}
use Rattle.std.proofs.lemmas.Result.{on_ok_weaker}
use Rattle.coff_library.specs.SymbolView.{symbol_view}
use Rattle.coff_library.specs.Written.{second_table}
use Rattle.coff_library.proofs.Records.{record_written}
use Rattle.coff_library.proofs.TablesRead.{length-second}
use Rattle.coff_library.proofs.write.push_second.Goals as goal

pub push_second_table-requires-clause-members : goal.push_second_table-requires-clause-members
push_second_table-requires-clause-members g c =
    λ k d lt. (let below = c.requires.members k d lt in let few = c.requires.few in omega (arith, below, few))

pub returns : goal.returns
returns g c =
    let symbols = map symbol_view c.args.symbols.now in
    let len = length-second c.args.offsets.now symbols in
    let fits = c.requires.size in
    let counted_size = c.second_size-size.ensures in
    let size : c.second_size-size.result ≡ length (second_table c.args.offsets.now symbols) = omega (arith, len, fits, counted_size) in
    on_ok_weaker c.push_pad.result
    (record_written _ _ _ _ (47 ∷ []) (second_table c.args.offsets.now symbols) c.second_size-size.result size c.in_ok-push_header.ensures c.in_ok-push_second_table.ensures) c.push_pad.ensures
