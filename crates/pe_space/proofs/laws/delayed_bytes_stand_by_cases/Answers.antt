use Rattle.pe_set.specs.DelayedImports.{with_delayed}
use Rattle.pe_set.specs.Set.{modules_of}
use Rattle.pe_space.proofs.Cases.{in_slots, in_fixups, in_neither, in_none}
use Rattle.pe_space.proofs.laws.delayed_bytes_stand_by_cases.Goals as goal

pub returns-clause-slot : goal.returns-clause-slot
returns-clause-slot c = λ policy es i r k m exporter b none has at exports. in_slots (with_delayed (modules_of es)) (c.delayed_sets_are_sound.ensures.sound policy es none) i r k m exporter b has at exports

pub returns-clause-field : goal.returns-clause-field
returns-clause-field c = λ policy es i r k m f none has at. in_fixups (with_delayed (modules_of es)) (c.delayed_sets_are_sound.ensures.sound policy es none) i r k m f has at

pub returns-clause-plain : goal.returns-clause-plain
returns-clause-plain c = λ policy es i r m none has no_slot no_field. in_neither (with_delayed (modules_of es)) (c.delayed_sets_are_sound.ensures.sound policy es none) i r m has no_slot no_field

pub returns-clause-none : goal.returns-clause-none
returns-clause-none c = λ es a out. in_none (with_delayed (modules_of es)) a out
