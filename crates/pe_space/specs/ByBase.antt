-- The images of a space in the order of their bases. No contract of a public function uses this module.
use Rattle.std.specs.Prelude.{ℕ, ◌≡◌, ◌<◌, ◌≤◌, ◌==◌, if◌then◌else◌, List, length}
use Rattle.std.specs.List.{Contains}
use Rattle.std.specs.List.Sorted.{IsNonDecreasingBy}
use Rattle.pe_set.specs.Placement.{Placement, placement_at}
use Rattle.pe_space.specs.FieldsAndSlots.{Apart}
use Rattle.pe_space.specs.declared.by_base.NumberAt.{NumberAt}

abbrev pub base_of : NumberAt → ℕ
base_of at = at.base

-- image number j, at its base
abbrev pub numbered : List Placement → ℕ → NumberAt
numbered ps j = record { base = (placement_at ps j).base; number = j }

-- the numbers of all images, by ascending bases
pub record IsByBase (ps : List Placement) (order : List NumberAt) : Type 0 where
  pub own : (at : NumberAt) → Contains order at → (at.number < length ps) × (at ≡ numbered ps at.number)
  pub all : (j : ℕ) → j < length ps → Contains order (numbered ps j)
  pub ascend : IsNonDecreasingBy base_of order

-- the same, with image i at another base
abbrev pub with_base : ℕ → ℕ → NumberAt → NumberAt
with_base i base at = if at.number == i then record at { base = base } else at

-- images that are not empty and do not overlap
pub record StandApart (ps : List Placement) : Type 0 where
  pub few : length ps ≤ 256
  pub some : (j : ℕ) → j < length ps → 0 < (placement_at ps j).size
  pub apart : (j k : ℕ) → j < length ps → k < length ps → (j ≡ k → ⊥) → Apart (placement_at ps j).base (placement_at ps j).size (placement_at ps k).base (placement_at ps k).size
