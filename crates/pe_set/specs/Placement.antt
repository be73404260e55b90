-- Where an image is, and what decides where it may be.
use Rattle.std.specs.Prelude.{ℕ, suc, ◌+◌, ◌%◌, ◌^◌, ◌==◌, Bool, false, not, ◌&&◌, nat_lt, List, [], ◌∷◌, ◌++◌, length, take, drop, slice_index_or}
use Rattle.std.specs.List.{list_any}
use Rattle.pe_view.specs.declared.fault.Place.TheVariants.{Address, Item}
use Rattle.pe_view.specs.Faults.{Test, test}
use Rattle.pe_head.specs.declared.optional.Magic.{Magic}
use Rattle.pe_head.specs.declared.optional.Magic.TheVariants.{Pe32, Pe32Plus}
use Rattle.pe_ranges.specs.Ranges.{meets}

-- an image's base, its SizeOfImage, and of its headers the Magic, ImageBase and whether its relocations were stripped
pub record Placement : Type 0 where
  pub base : ℕ
  pub size : ℕ
  pub magic : Magic
  pub image_base : ℕ
  pub is_stripped : Bool

-- the end of the addresses
abbrev pub address_limit : Magic → ℕ
address_limit Pe32 = 2 ^ 32
address_limit Pe32Plus = 2 ^ 64

-- two images have an address in common
abbrev pub overlap : Placement → Placement → Bool
overlap p q = meets p.base p.size q.base q.size

-- faults 44 to 47 of image i, with other images
abbrev pub base_tests : List Placement → ℕ → Placement → List Test
base_tests others i p =
    test 44 i (Address p.base) (not (p.base % 65536 == 0))
    ∷ test 45 i (Address p.base) (nat_lt (address_limit p.magic) (p.base + p.size))
    ∷ test 46 i (Address p.base) (p.is_stripped && not (p.base == p.image_base))
    ∷ test 47 i (Address p.base) (list_any (overlap p) others)
    ∷ []

-- the placement of no image
abbrev pub no_placement : Placement
no_placement = record { base = 0; size = 0; magic = Pe32; image_base = 0; is_stripped = false }

abbrev pub placement_at : List Placement → ℕ → Placement
placement_at ps i = slice_index_or ps i no_placement

-- all images but number i
abbrev pub others_than : ℕ → List Placement → List Placement
others_than i ps = take i ps ++ drop (suc i) ps

-- faults 55 and 44 to 47 of a move of image i to a base, which tests it with every other image, whatever base it had before
abbrev pub move_tests : List Placement → ℕ → ℕ → List Test
move_tests ps i base = test 55 i (Item i) (not (nat_lt i (length ps))) ∷ base_tests (others_than i ps) i (record (placement_at ps i) { base = base })
