-- Moves of images of a space: when they are refused, and what they change.
use Rattle.std.specs.Prelude.{ℕ, Option, map, length, count_by, slice_set}
use Rattle.pe_view.specs.Faults.{first_standing}
use Rattle.pe_view.specs.declared.fault.Fault.{Fault}
use Rattle.pe_set.specs.Placement.{move_tests}
use Rattle.pe_space.specs.Content.{Content, nth_image, placement_of}
use Rattle.pe_space.specs.Memory.{ends_in}
use Rattle.pe_space.specs.declared.space.Moved.{Moved}

-- the first fault of a move of image i to a base: 55, then 44 to 47
abbrev pub move_fault : Content → ℕ → ℕ → Option Fault
move_fault c i base = first_standing (move_tests (map placement_of c.images) i base)

-- image i has the new base, and nothing else changes
abbrev pub moved : Content → ℕ → ℕ → Content
moved c i base = record c { images = slice_set c.images i (record (nth_image c.images i) { base = base }) }

-- the fields of image i, and the slots of all images that are bound to its exports
abbrev pub moved_counts : Content → ℕ → Moved
moved_counts c i = record { fields = length (nth_image c.images i).fixups; slots = count_by (ends_in i) c.bindings }
