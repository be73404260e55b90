-- The first leaf of a type for each id.
use Rattle.std.specs.Prelude.{◌≡◌, ◌<◌, ◌^◌, ℕ, List, length, Option, None, find, slice_index_or}
use Rattle.pe_resources.specs.declared.leaf.Leaf.{Leaf}
use Rattle.pe_resource_files.specs.Pictures.{is_called}

-- row `id` is the first leaf of the type that has that id
pub record IsById (kind : ℕ) (leaves : List Leaf) (firsts : List (Option Leaf)) : Type 0 where
  pub count : length firsts ≡ 2 ^ 16
  pub first : (id : ℕ) → id < 2 ^ 16 → slice_index_or firsts id None ≡ find (is_called kind id) leaves
