-- Symbol by symbol.
use denote.Param.{number}
use Rattle.std.proofs.Common.{◌≡◌, List, ℕ, ◌+◌, ◌≤◌, ap, length, arith}
use Rattle.std.specs.List.{flat_map}
use Rattle.std.proofs.lemmas.Result.{err_from_is_err_and}
use Rattle.pe_view.specs.View.{bytes_of}
use Rattle.coff_read.specs.FormFaults.{symbol_tests}
use Rattle.coff_read.specs.FormReading.{aux_count, symbol_indexes}
use Rattle.coff_read.specs.contracts.symbol.check_symbols.{BIG-type}
use Rattle.coff_read.proofs.Walk.{symbols_next, symbols_some, pass, stop}
use Rattle.coff_read.proofs.symbol.check_symbols.Goals as goal

pub returns-in_err-k : goal.returns-in_err-k
returns-in_err-k g c =
    let big = BIG-type (number g.row.BIG) in
    let file = bytes_of c.args.view in
    let k : ℕ = c.loop-k.k in
    let some = symbols_some big file k c.args.tables.records c.loop-k-test.true in
    let p = err_from_is_err_and c.from_residual.result c.from_residual.ensures.1 in
    rw (p.1, p.2) (stop (symbol_tests big file) k _ _ (flat_map (symbol_tests big file) (symbol_indexes big file)) _ some c.in_err-k.ensures.exact c.loop-k.invariant.first)

pub loop-k-preserved : goal.loop-k-preserved
loop-k-preserved g c =
    let big = BIG-type (number g.row.BIG) in
    let file = bytes_of c.args.view in
    let k : ℕ = c.loop-k.k in
    let records : ℕ = c.args.tables.records in
    let next : ℕ = c.in_ok-k.k in
    let next_is : next ≡ k + 1 + aux_count big file k = c.in_ok-k.ensures.exact.1 in
    let few = c.loop-k.invariant.few in
    let inside : next ≤ records = c.in_ok-k.ensures.within in
    let step = symbols_next big file k next records next_is inside in
    let one = ap (λ (ks : List ℕ). length ks) step in
    let counted = c.loop-k.invariant.counted in
    record {
      within = inside;
      few = omega (arith, few, next_is);
      first = pass (symbol_tests big file) k _ _ (flat_map (symbol_tests big file) (symbol_indexes big file)) step c.in_ok-k.ensures.exact.0 c.loop-k.invariant.first;
      counted = omega (arith, one, counted);
    }
