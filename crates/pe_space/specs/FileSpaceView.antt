-- What the fields of a space over files hold. No contract of a public function uses this module.
use Rattle.std.specs.Prelude.{ℕ, List, ◌≡◌, ◌<◌, ◌≤◌, ◌^◌, length, map, count_by, slice_index}
use Rattle.pe_set.specs.declared.binding.Binding.{Binding}
use Rattle.pe_space.specs.ByBase.{IsByBase}
use Rattle.pe_space.specs.Content.{Content, SpaceImage, nth_image, placement_of}
use Rattle.pe_space.specs.Memory.{ends_in}
use Rattle.pe_space.specs.Ordered.{IsOrdered, slot_of}
use Rattle.pe_space.specs.ImagesApart.{ImagesApart}
use Rattle.pe_space.specs.FieldsAndSlots.{FieldsAndSlotsApart}
use Rattle.pe_space.specs.declared.by_base.NumberAt.{NumberAt}

abbrev pub file_content : List SpaceImage → List Binding → Content
file_content images bs = record { images = images; bindings = bs }

-- how many slots are bound to each of n images
pub record SlotCounts (n : ℕ) (bs : List Binding) (counts : List ℕ) : Type 0 where
  pub count : length counts ≡ n
  pub each : (j : ℕ) → j < n → slice_index counts j ≡ count_by (ends_in j) bs

pub record FileSpaceHolds (images : List SpaceImage) (order : List NumberAt) (bs slots : List Binding) (ends : List ℕ) : Type 0 where
  pub fields_and_slots : FieldsAndSlotsApart (file_content images bs)
  pub placed : ImagesApart (file_content images bs)
  pub whole : (j : ℕ) → length (nth_image images j).plain ≡ (nth_image images j).size
  pub small : (j : ℕ) → (nth_image images j).size ≤ 2 ^ 31
  pub by_base : IsByBase (map placement_of images) order
  pub by_slot : IsOrdered slot_of bs slots
  pub counts : SlotCounts (length images) bs ends
