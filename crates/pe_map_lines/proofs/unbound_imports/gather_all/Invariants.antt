use Rattle.std.proofs.Common.{◌≡◌, ◌++◌, drop, map}
use Rattle.std.specs.Prelude.{All}
use Rattle.pe_set.specs.Bindings.{bindings_in}
use Rattle.pe_set.specs.Numbered.{numbered}
use Rattle.pe_set.specs.Set.{Module}
use Rattle.pe_set.specs.SetView.{modules_view}
use Rattle.pe_unbound.specs.Unbound.{unbound_in, HaveOwnSlots}
use Rattle.pe_map_lines.specs.UnboundImports.{unbound_view}
use Rattle.pe_map_lines.proofs.unbound_imports.gather_all.Given as goal

abbrev pub invariant-loop-number : goal.invariant-loop-number
invariant-loop-number g l = record {
  left : l.left ≡ numbered (bindings_in (modules_view l.modules)) l.number (modules_view (drop l.number l.modules));
  apart : All (λ (m : Module). HaveOwnSlots m.imports) (modules_view (drop l.number l.modules));
  told : map unbound_view l.unbound.items ++ numbered (unbound_in (modules_view l.modules)) l.number (modules_view (drop l.number l.modules))
      ≡ numbered (unbound_in (modules_view l.modules)) 0 (modules_view l.modules);
}
