-- What the fields of a mapped space hold. No contract of a public function uses this module.
use Rattle.std.specs.Prelude.{ℕ, List, ◌≡◌, length, map, pos, ◌-ℤ◌}
use Rattle.pe_set.specs.declared.binding.Binding.{Binding}
use Rattle.pe_space.specs.ByBase.{IsByBase}
use Rattle.pe_space.specs.Content.{Content, nth_image, placement_of}
use Rattle.pe_space.specs.Memory.{memory_of, shifted_all}
use Rattle.pe_space.specs.InMemory.{InMemory, images_of, memories_of}
use Rattle.pe_space.specs.Ordered.{IsOrdered, exporter_of}
use Rattle.pe_space.specs.ImagesApart.{ImagesApart}
use Rattle.pe_space.specs.FieldsAndSlots.{FieldsAndSlotsApart, MemoryHolds}
use Rattle.pe_space.specs.declared.by_base.NumberAt.{NumberAt}

abbrev pub mapped_content : List InMemory → List Binding → Content
mapped_content hs bs = record { images = images_of hs; bindings = bs }

pub record MappedSpaceHolds (hs : List InMemory) (order : List NumberAt) (bs slots : List Binding) : Type 0 where
  pub fields_and_slots : FieldsAndSlotsApart (mapped_content hs bs)
  pub placed : ImagesApart (mapped_content hs bs)
  pub memory_holds : MemoryHolds (mapped_content hs bs) (memories_of hs)
  pub whole : (j : ℕ) → length (nth_image (images_of hs) j).plain ≡ (nth_image (images_of hs) j).size
  pub by_base : IsByBase (map placement_of (images_of hs)) order
  pub by_exporter : IsOrdered exporter_of bs slots

-- the memories have the plain bytes with each field relocated from ImageBase, and no slot is bound
pub record SlotsUnbound (c : Content) (ms : List (List ℕ)) : Type 0 where
  pub count : length ms ≡ length c.images
  pub whole : (j : ℕ) → length (nth_image c.images j).plain ≡ (nth_image c.images j).size
  pub fields : (j : ℕ) → memory_of ms j ≡ shifted_all (pos (nth_image c.images j).base -ℤ pos (nth_image c.images j).image_base) (nth_image c.images j).fixups (nth_image c.images j).plain
