-- The images of a space do not overlap. No contract of a public function uses this module.
use Rattle.std.specs.Prelude.{ℕ, ◌+◌, ◌%◌, ◌^◌, ◌≡◌, ◌<◌, ◌≤◌, length}
use Rattle.pe_set.specs.Placement.{address_limit}
use Rattle.pe_space.specs.Content.{Content, nth_image}
use Rattle.pe_space.specs.FieldsAndSlots.{Apart}

-- the images have valid bases
pub record ImagesApart (c : Content) : Type 0 where
  pub few : length c.images ≤ 256
  pub few_slots : length c.bindings < 2 ^ 32
  pub aligned : (j : ℕ) → (nth_image c.images j).base % 65536 ≡ 0
  pub room : (j : ℕ) → (nth_image c.images j).base + (nth_image c.images j).size ≤ address_limit (nth_image c.images j).magic
  pub some : (j : ℕ) → j < length c.images → 0 < (nth_image c.images j).size
  pub apart : (j k : ℕ) → j < length c.images → k < length c.images → (j ≡ k → ⊥) → Apart (nth_image c.images j).base (nth_image c.images j).size (nth_image c.images k).base (nth_image c.images k).size
