use Rattle.std.proofs.Common.{◌≡◌, ◌-◌, ◌≤◌, ◌++◌, None}
use Rattle.std.specs.Prelude.{map}
use Rattle.std.specs.List.{flat_map}
use Rattle.pe_view.specs.Faults.{first_standing}
use Rattle.pe_view.specs.TextEnds.{AreEndsOf}
use Rattle.pe_view.specs.View.{bytes_of}
use Rattle.coff_read.specs.BigView.{big_symbol_view}
use Rattle.coff_read.specs.FormFaults.{symbol_tests}
use Rattle.coff_read.specs.FormReading.{symbol_at, record_start, symbols_from, symbol_indexes}
use Rattle.coff_read.specs.Forms.{Big}
use Rattle.coff_read.proofs.big_symbol.read_big_symbols.Given as goal

abbrev pub invariant-loop-k : goal.invariant-loop-k
invariant-loop-k g l = record {
  within : l.k ≤ l.tables.records;
  known : AreEndsOf (bytes_of l.view) l.ends;
  sound : first_standing (flat_map (symbol_tests Big (bytes_of l.view)) (symbols_from Big (bytes_of l.view) l.k (l.tables.records - l.k) 0)) ≡ None;
  read :
      map big_symbol_view l.symbols.items ++ map (λ k. symbol_at Big (bytes_of l.view) (record_start Big (bytes_of l.view) k)) (symbols_from Big (bytes_of l.view) l.k (l.tables.records - l.k) 0)
      ≡ map (λ k. symbol_at Big (bytes_of l.view) (record_start Big (bytes_of l.view) k)) (symbol_indexes Big (bytes_of l.view));
}

abbrev pub decreases-loop-k : goal.decreases-loop-k
decreases-loop-k g l = l.tables.records - l.k
