use Rattle.std.proofs.Common.{ℕ, List, ◌≡◌, ◌++◌, ◌*◌, ◌≤◌, drop, length}
use Rattle.std.specs.Prelude.{All}
use Rattle.pe_tables.specs.Imports.{Import}
use Rattle.pe_set.specs.Bindings.{bindings_in}
use Rattle.pe_set.specs.Numbered.{numbered}
use Rattle.pe_set.specs.Set.{Module}
use Rattle.pe_set.specs.SetView.{modules_view}
use Rattle.pe_unbound.specs.Unbound.{unbound_in, HaveOwnSlots}
use Rattle.pe_records_c.specs.UnboundRows.{IsPut}
use Rattle.pe_records_c.proofs.unbound.put_unbound.Given as goal

abbrev pub invariant-loop-number : goal.invariant-loop-number
invariant-loop-number l = record {
  left : l.left ≡ numbered (bindings_in (modules_view l.modules)) l.number (modules_view (drop l.number l.modules));
  apart : All (λ (m : Module). HaveOwnSlots m.imports) (modules_view (drop l.number l.modules));
  small : All (λ (m : Module). length m.imports ≤ 1048576) (modules_view (drop l.number l.modules));
  put : (kept : List (ℕ × Import)) × IsPut kept l.initial.rows l.rows l.count
      × (kept ++ numbered (unbound_in (modules_view l.modules)) l.number (modules_view (drop l.number l.modules)) ≡ numbered (unbound_in (modules_view l.modules)) 0 (modules_view l.modules));
  few : l.count ≤ 1048576 * l.number;
}
