use Rattle.std.proofs.Common.{◌≡◌, map}
use Rattle.pe_set.specs.SetView.{modules_view}
use Rattle.pe_space.specs.Relocated.{relocated_of, FieldsFit}
use Rattle.pe_space.specs.FieldsAndSlots.{Each}
use Rattle.pe_space.proofs.Judged.{made_and_left}
use Rattle.pe_space.proofs.mapping.map_accepted.Given as goal

-- the images so far and those to be made are all of the set
abbrev pub invariant-loop-own : goal.invariant-loop-own
invariant-loop-own g l = record {
  made : made_and_left relocated_of l.images.items l.own-iterator.rest.items ≡ map relocated_of (modules_view l.fn.accepted.modules.items);
  fit : Each FieldsFit (modules_view l.own-iterator.rest.items);
}
