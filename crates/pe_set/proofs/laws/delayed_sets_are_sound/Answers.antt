use Rattle.pe_set.specs.DelayedImports.{with_delayed}
use Rattle.pe_set.specs.Set.{modules_of}
use Rattle.pe_set.specs.SetErrors.{imports_errors}
use Rattle.pe_set.proofs.Faultless.{delayed_classes, no_error}
use Rattle.pe_set.proofs.Soundness.{delayed_sound}
use Rattle.pe_set.proofs.laws.delayed_sets_are_sound.Goals as goal

pub returns-clause-sound : goal.returns-clause-sound
returns-clause-sound c = delayed_sound (record {
  images_small = c.images_are_small.ensures;
  slots_inside = c.slots_are_apart.ensures.inside;
  slots_apart = c.slots_are_apart.ensures.apart;
  slots_few = c.slots_are_apart.ensures.few;
  fields_inside = c.fields_are_apart.ensures.inside;
  fields_apart = c.fields_are_apart.ensures.apart;
  fields_off = c.fields_are_apart.ensures.off_slots;
  fields_few = c.fields_are_apart.ensures.few;
  targets = c.targets_are_inside.ensures;
}) (record { inside = c.delay_slots_are_inside.ensures.inside; few = c.delay_slots_are_inside.ensures.few })

pub returns-clause-names : goal.returns-clause-names
returns-clause-names c = λ policy es none. (delayed_classes policy es none).names

pub returns-clause-files : goal.returns-clause-files
returns-clause-files c = λ policy es none. (delayed_classes policy es none).files

pub returns-clause-places : goal.returns-clause-places
returns-clause-places c = λ policy es none. (delayed_classes policy es none).places

pub returns-clause-imports : goal.returns-clause-imports
returns-clause-imports c = λ policy es none. no_error (imports_errors policy (with_delayed (modules_of es))) (delayed_classes policy es none).imports
