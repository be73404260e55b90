use Rattle.std.proofs.Common.{◌≡◌, map, take}
use Rattle.pe_set.specs.NameLengths.{AreWithin}
use Rattle.pe_set.specs.NamesView.{lowered}
use Rattle.pe_set.specs.SetView.{modules_view}
use Rattle.pe_set.proofs.module_names.Names.new.Given as goal

abbrev pub invariant-loop-module : goal.invariant-loop-module
invariant-loop-module g l = record {
  names : map (λ name. name.items) l.names.keys ≡ lowered (modules_view (take l.module-index l.modules));
  within : AreWithin l.longest (map (λ name. name.items) l.names.keys);
}
