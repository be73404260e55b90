use Rattle.std.proofs.Common.{◌<◌, length, rules, refl}
use Rattle.pe_space.specs.InMemory.{images_of}
use Rattle.pe_space.proofs.MemoryWrites.{in_list, put_here}
use Rattle.pe_space.proofs.mapped_space.put_address.Goals as goal

pub bounds-images-binding : goal.bounds-images-binding
bounds-images-binding g c = in_list c.args.images.now c.args.images.now (images_of c.args.images.now) _ refl refl c.requires.image

pub offset_bounds-images-binding : goal.offset_bounds-images-binding
offset_bounds-images-binding g c =
    let within : c.args.binding.now.image < length c.args.images.now = in_list c.args.images.now c.args.images.now (images_of c.args.images.now) _ refl refl c.requires.image in
    search (rules, within)

pub returns-clause-images : goal.returns-clause-images
returns-clause-images g c = (put_here c.args.images.now c.args.binding.now c.args.address c.index-images-binding.result c.put_slot.new.self c.requires c.index-images-binding.is c.put_slot.ensures).0

pub returns-clause-memories : goal.returns-clause-memories
returns-clause-memories g c = (put_here c.args.images.now c.args.binding.now c.args.address c.index-images-binding.result c.put_slot.new.self c.requires c.index-images-binding.is c.put_slot.ensures).1
