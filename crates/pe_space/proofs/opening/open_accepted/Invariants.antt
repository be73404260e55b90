use Rattle.std.proofs.Common.{◌≡◌, map}
use Rattle.pe_set.specs.SetView.{modules_view}
use Rattle.pe_space.specs.Relocated.{FieldsFit}
use Rattle.pe_space.specs.SetContent.{image_content}
use Rattle.pe_space.specs.FieldsAndSlots.{Each}
use Rattle.pe_space.proofs.Judged.{made_and_left}
use Rattle.pe_space.proofs.opening.open_accepted.Given as goal

-- the images so far and those to be made are all of the set
abbrev pub invariant-loop-own : goal.invariant-loop-own
invariant-loop-own g l = record {
  made : made_and_left image_content l.images.items l.own-iterator.rest.items ≡ map image_content (modules_view l.fn.accepted.modules.items);
  fit : Each FieldsFit (modules_view l.own-iterator.rest.items);
}
