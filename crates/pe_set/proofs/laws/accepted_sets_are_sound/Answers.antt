use Rattle.pe_set.proofs.Soundness.{accepted_sound, accepted_few}
use Rattle.pe_set.proofs.laws.accepted_sets_are_sound.Goals as goal

pub returns-clause-sound : goal.returns-clause-sound
returns-clause-sound c = accepted_sound (record {
  images_small = c.images_are_small.ensures;
  slots_inside = c.slots_are_apart.ensures.inside;
  slots_apart = c.slots_are_apart.ensures.apart;
  slots_few = c.slots_are_apart.ensures.few;
  fields_inside = c.fields_are_apart.ensures.inside;
  fields_apart = c.fields_are_apart.ensures.apart;
  fields_off = c.fields_are_apart.ensures.off_slots;
  fields_few = c.fields_are_apart.ensures.few;
  targets = c.targets_are_inside.ensures;
})

pub returns-clause-few_slots : goal.returns-clause-few_slots
returns-clause-few_slots c = accepted_few (record {
  images_small = c.images_are_small.ensures;
  slots_inside = c.slots_are_apart.ensures.inside;
  slots_apart = c.slots_are_apart.ensures.apart;
  slots_few = c.slots_are_apart.ensures.few;
  fields_inside = c.fields_are_apart.ensures.inside;
  fields_apart = c.fields_are_apart.ensures.apart;
  fields_off = c.fields_are_apart.ensures.off_slots;
  fields_few = c.fields_are_apart.ensures.few;
  targets = c.targets_are_inside.ensures;
})
