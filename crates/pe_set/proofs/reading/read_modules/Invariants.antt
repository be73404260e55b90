use Rattle.std.proofs.Common.{◌≡◌, ◌++◌, drop, map}
use Rattle.pe_view.specs.Faults.{first_standing}
use Rattle.pe_set.specs.Numbered.{numbered}
use Rattle.pe_image.specs.ImageTests.{image_tests}
use Rattle.pe_set.specs.Set.{modules_from}
use Rattle.pe_set.specs.SetView.{entries_of, module_view}
use Rattle.pe_set.proofs.reading.read_modules.Given as goal

abbrev pub invariant-loop-index : goal.invariant-loop-index
invariant-loop-index g l = record {
  rest : first_standing (numbered (λ i e. image_tests i e.file) l.index (entries_of (drop l.index l.set))) ≡ first_standing (numbered (λ i e. image_tests i e.file) 0 (entries_of l.set));
  read : map module_view l.modules.items ++ modules_from l.index (entries_of (drop l.index l.set)) ≡ modules_from 0 (entries_of l.set);
}
