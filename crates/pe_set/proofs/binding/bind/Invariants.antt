use Rattle.std.proofs.Common.{◌≡◌, ◌++◌, drop}
use Rattle.std.specs.List.{flat_map}
use Rattle.pe_set.specs.Numbered.{numbered}
use Rattle.pe_set.specs.SetErrors.{import_errors, first_error}
use Rattle.pe_set.specs.Bindings.{bindings_in}
use Rattle.pe_set.specs.SetView.{modules_view}
use Rattle.pe_set.specs.EndsView.{AreEnds}
use Rattle.pe_set.proofs.binding.bind.Given as goal

abbrev pub invariant-loop-index : goal.invariant-loop-index
invariant-loop-index g l = record {
  known : AreEnds (modules_view l.modules) l.ends;
  rest : first_error (numbered (λ i m. flat_map (import_errors l.policy (modules_view l.modules) i) m.imports) l.index (modules_view (drop l.index l.modules)))
      ≡ first_error (numbered (λ i m. flat_map (import_errors l.policy (modules_view l.modules) i) m.imports) 0 (modules_view l.modules));
  bound : l.bindings.items ++ numbered (bindings_in (modules_view l.modules)) l.index (modules_view (drop l.index l.modules))
      ≡ numbered (bindings_in (modules_view l.modules)) 0 (modules_view l.modules);
}
