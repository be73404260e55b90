use Rattle.std.proofs.Common.{◌≡◌, ◌++◌, drop, map, take}
use Rattle.pe_set.specs.DelayedImports.{delayed_in, with_imports}
use Rattle.pe_set.specs.SetView.{modules_view}
use Rattle.pe_set.proofs.adding.add_delayed.Given as goal

-- the images so far have their delay-loaded imports, and the others are as they were
abbrev pub invariant-loop-index : goal.invariant-loop-index
invariant-loop-index g l =
    modules_view l.modules
    ≡ map (λ m. with_imports (delayed_in (modules_view l.fn.modules) m) m) (take l.index (modules_view l.fn.modules)) ++ drop l.index (modules_view l.fn.modules)
