use denote.Param.{number}
use Rattle.std.proofs.Common.{◌≡◌, ◌+◌, ◌-◌, ◌≤◌, length}
use Rattle.std.specs.List.{flat_map}
use Rattle.pe_view.specs.Faults.{first_standing}
use Rattle.pe_view.specs.View.{bytes_of}
use Rattle.coff_read.specs.FormFaults.{symbol_tests}
use Rattle.coff_read.specs.FormReading.{symbols_from, symbol_indexes}
use Rattle.coff_read.specs.contracts.symbol.check_symbols.{BIG-type}
use Rattle.coff_read.proofs.symbol.check_symbols.Given as goal

abbrev pub invariant-loop-k : goal.invariant-loop-k
invariant-loop-k g l =
    let big = BIG-type (number g.row.BIG) in
    record {
      within : l.k ≤ l.tables.records;
      few : l.count ≤ l.k;
      first :
          first_standing (flat_map (symbol_tests big (bytes_of l.view)) (symbols_from big (bytes_of l.view) l.k (l.tables.records - l.k) 0))
          ≡ first_standing (flat_map (symbol_tests big (bytes_of l.view)) (symbol_indexes big (bytes_of l.view)));
      counted : l.count + length (symbols_from big (bytes_of l.view) l.k (l.tables.records - l.k) 0) ≡ length (symbol_indexes big (bytes_of l.view));
    }

abbrev pub decreases-loop-k : goal.decreases-loop-k
decreases-loop-k g l = l.tables.records - l.k
