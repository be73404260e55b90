-- Where images may be, by the definitions, as examples.
use Rattle.std.proofs.Common.{◌≡◌, ℕ, true, false, List, [], ◌∷◌, Option, Some, None, refl}
use Rattle.pe_view.specs.declared.fault.Fault.{Fault}
use Rattle.pe_view.specs.declared.fault.Place.TheVariants.{Address, Item}
use Rattle.pe_view.specs.Faults.{first_standing}
use Rattle.pe_head.specs.declared.optional.Magic.{Magic}
use Rattle.pe_head.specs.declared.optional.Magic.TheVariants.{Pe32, Pe32Plus}
use Rattle.pe_set.specs.Placement.{Placement, base_tests, move_tests}

-- an image at a base, with its size and Magic, which may be anywhere
abbrev placed : ℕ → ℕ → Magic → Placement
placed base size magic = record { base = base; size = size; magic = magic; image_base = 0x10000000; is_stripped = false }

-- an image at a base whose relocations were stripped, with its ImageBase
abbrev stripped : ℕ → ℕ → Placement
stripped base image_base = record { base = base; size = 0x3000; magic = Pe32; image_base = image_base; is_stripped = true }

-- the fault that image 1 has with others
abbrev beside : List Placement → Placement → Option Fault
beside others own = first_standing (base_tests others 1 own)

-- a fault of image 1 at its base
abbrev at_base : ℕ → ℕ → Option Fault
at_base number base = Some (record { number = number; image = 1; place = Address base })

-- ---- 44: a base is a multiple of 65,536
-- a multiple
multiple : beside [] (placed 0x10010000 0x3000 Pe32) ≡ None
multiple = refl

-- half of 65,536 is not enough
half : beside [] (placed 0x10008000 0x3000 Pe32) ≡ at_base 44 0x10008000
half = refl

-- ---- 45: an image ends where the addresses of its Magic end, or before
-- PE32: the last byte has the last address
up_to_the_end : beside [] (placed 0xffff0000 0x10000 Pe32) ≡ None
up_to_the_end = refl

-- PE32: one byte more
past_the_end : beside [] (placed 0xffff0000 0x10001 Pe32) ≡ at_base 45 0xffff0000
past_the_end = refl

-- PE32: a base past all addresses
behind_the_end : beside [] (placed 0x100000000 0x3000 Pe32) ≡ at_base 45 0x100000000
behind_the_end = refl

-- PE32+: it may be where no PE32 image may
plus_behind_4_gib : beside [] (placed 0x140000000 0x3000 Pe32Plus) ≡ None
plus_behind_4_gib = refl

-- PE32+: the last byte has the last address
plus_up_to_the_end : beside [] (placed 0xffffffffffff0000 0x10000 Pe32Plus) ≡ None
plus_up_to_the_end = refl

-- PE32+: one byte more
plus_past_the_end : beside [] (placed 0xffffffffffff0000 0x10001 Pe32Plus) ≡ at_base 45 0xffffffffffff0000
plus_past_the_end = refl

-- ---- 46: an image without relocations is at its ImageBase
-- there it may
at_its_image_base : beside [] (stripped 0x10000000 0x10000000) ≡ None
at_its_image_base = refl

-- elsewhere it may not
off_its_image_base : beside [] (stripped 0x10010000 0x10000000) ≡ at_base 46 0x10010000
off_its_image_base = refl

-- an image with relocations may be elsewhere
with_relocations : beside [] (placed 0x20000000 0x3000 Pe32) ≡ None
with_relocations = refl

-- an ImageBase that is no multiple of 65,536 leaves a stripped image no base
no_base : beside [] (stripped 0x10008000 0x10008000) ≡ at_base 44 0x10008000
no_base = refl

-- ---- 47: images share no address
-- the image ends where another begins
ends_at_another : beside (placed 0x20000 0x10000 Pe32 ∷ []) (placed 0x10000 0x10000 Pe32) ≡ None
ends_at_another = refl

-- it has one byte more, which is the other's first
reaches_into_another : beside (placed 0x20000 0x10000 Pe32 ∷ []) (placed 0x10000 0x10001 Pe32) ≡ at_base 47 0x10000
reaches_into_another = refl

-- the image begins where another ends
begins_behind_another : beside (placed 0x20000 0x10000 Pe32 ∷ []) (placed 0x30000 0x10000 Pe32) ≡ None
begins_behind_another = refl

-- the other has one byte more, which is the image's first
begins_in_another : beside (placed 0x20000 0x10001 Pe32 ∷ []) (placed 0x30000 0x10000 Pe32) ≡ at_base 47 0x30000
begins_in_another = refl

-- two images at one base
at_one_base : beside (placed 0x10000000 0x3000 Pe32 ∷ []) (placed 0x10000000 0x3000 Pe32) ≡ at_base 47 0x10000000
at_one_base = refl

-- it is compared with each of the others
meets_the_second : beside (placed 0x20000 0x3000 Pe32 ∷ placed 0x30000 0x3000 Pe32 ∷ []) (placed 0x30000 0x3000 Pe32) ≡ at_base 47 0x30000
meets_the_second = refl

-- ---- the first that holds is returned
-- 44 before 45, though the image also ends too late
first_of_two : beside [] (placed 0xffff8000 0x10000 Pe32) ≡ at_base 44 0xffff8000
first_of_two = refl

-- 46 before 47
first_of_others : beside (placed 0x20000 0x3000 Pe32 ∷ []) (stripped 0x20000 0x10000000) ≡ at_base 46 0x20000
first_of_others = refl

-- ---- moves
-- an image of 0x20000 bytes at 0x20000000, one of 0x3000 at 0x10000000
abbrev two : List Placement
two = placed 0x20000000 0x20000 Pe32 ∷ placed 0x10000000 0x3000 Pe32 ∷ []

-- the fault of a move of image i of these
abbrev moved : ℕ → ℕ → Option Fault
moved i base = first_standing (move_tests two i base)

-- no image can be moved where there is none
moved_in_no_set : first_standing (move_tests [] 0 0) ≡ Some (record { number = 55; image = 0; place = Item 0 })
moved_in_no_set = refl

-- images are numbered from 0
moved_past_the_last : moved 2 0x30000000 ≡ Some (record { number = 55; image = 2; place = Item 2 })
moved_past_the_last = refl

-- the last of them, to where there is room
the_last_moved : moved 1 0x30000000 ≡ None
the_last_moved = refl

-- an image may take addresses that it has itself
over_its_old_place : moved 0 0x20010000 ≡ None
over_its_old_place = refl

-- it may stay where it is
to_its_old_place : moved 0 0x20000000 ≡ None
to_its_old_place = refl

-- it meets the addresses of an image that comes after it in the set
onto_a_later_image : moved 0 0x0fff0000 ≡ Some (record { number = 47; image = 0; place = Address 0x0fff0000 })
onto_a_later_image = refl

-- it meets the addresses of an image that comes before it
onto_an_earlier_image : moved 1 0x20010000 ≡ Some (record { number = 47; image = 1; place = Address 0x20010000 })
onto_an_earlier_image = refl

-- the base of a move is tested like that of an image of a set
moved_by_half : moved 1 0x30008000 ≡ Some (record { number = 44; image = 1; place = Address 0x30008000 })
moved_by_half = refl

-- it may not end past the addresses
moved_too_far : moved 0 0xffff0000 ≡ Some (record { number = 45; image = 0; place = Address 0xffff0000 })
moved_too_far = refl

-- an image without relocations can only be moved to where it is
moved_without_relocations : first_standing (move_tests (stripped 0x10000000 0x10000000 ∷ []) 0 0x20000000) ≡ Some (record { number = 46; image = 0; place = Address 0x20000000 })
moved_without_relocations = refl
