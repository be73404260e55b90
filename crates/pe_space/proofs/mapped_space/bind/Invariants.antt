use Rattle.std.proofs.Common.{◌≡◌, drop}
use Rattle.pe_space.specs.InMemory.{images_of, memories_of}
use Rattle.pe_space.specs.Memory.{bound}
use Rattle.pe_space.proofs.mapped_space.bind.Given as goal

abbrev pub invariant-loop-slot : goal.invariant-loop-slot
invariant-loop-slot g l = record {
  images : images_of l.images ≡ images_of l.fn.images;
  rest : bound (images_of l.fn.images) (drop l.slot-index l.slots) (memories_of l.images) ≡ bound (images_of l.fn.images) l.slots (memories_of l.fn.images);
}
