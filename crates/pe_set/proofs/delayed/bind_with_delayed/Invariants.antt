use Rattle.std.proofs.Common.{◌≡◌, ◌++◌, drop, map}
use Rattle.pe_set.specs.DelayedImports.{delayed_in}
use Rattle.pe_set.specs.DelayedView.{imports_view}
use Rattle.pe_set.specs.EndsView.{AreEnds}
use Rattle.pe_set.specs.Numbered.{numbered}
use Rattle.pe_set.specs.SetErrors.{first_error}
use Rattle.pe_set.specs.SetView.{modules_view}
use Rattle.pe_set.proofs.DelayedSearch.{errors_in, bound_in}
use Rattle.pe_set.proofs.delayed.bind_with_delayed.Given as goal

abbrev pub invariant-loop-index : goal.invariant-loop-index
invariant-loop-index g l = record {
  known : AreEnds (modules_view l.modules) l.ends;
  rest : first_error (numbered (errors_in l.policy (modules_view l.modules)) l.index (modules_view (drop l.index l.modules)))
      ≡ first_error (numbered (errors_in l.policy (modules_view l.modules)) 0 (modules_view l.modules));
  bound : l.bindings.items ++ numbered (bound_in (modules_view l.modules)) l.index (modules_view (drop l.index l.modules))
      ≡ numbered (bound_in (modules_view l.modules)) 0 (modules_view l.modules);
  kept : map imports_view l.imports.items ++ map (delayed_in (modules_view l.modules)) (modules_view (drop l.index l.modules))
      ≡ map (delayed_in (modules_view l.modules)) (modules_view l.modules);
}
