-- What a step of the code over blocks gives, and leaves.
use Rattle.std.specs.Prelude.{◌≡◌, true, false, Option, Some, None, ℕ, List}
use Rattle.pe_view.specs.View.{bytes_of}
use Rattle.pe_version.specs.Block.{place_of}
use Rattle.pe_version.specs.Blocks.{is_block, block_end, aligned, in_blocks}
use Rattle.pe_version.specs.declared.block.Block.{Block}
use Rattle.pe_version.specs.declared.blocks.Blocks.{Blocks}

-- the next block, and that it is stepped over
pub record Passes (old : Blocks) (b : Block) (new : Blocks) : Type 0 where
  pub there : is_block (bytes_of old.view) old.end old.at ≡ true
  pub place : place_of b ≡ (old.at, block_end (bytes_of old.view) old.at)
  pub its_view : b.view ≡ old.view
  pub view : new.view ≡ old.view
  pub end : new.end ≡ old.end
  pub at : new.at ≡ aligned (block_end (bytes_of old.view) old.at)

abbrev pub StepsTo : Blocks → Option Block → Blocks → Type 0
StepsTo old (Some b) new = Passes old b new
StepsTo old None new = (is_block (bytes_of old.view) old.end old.at ≡ false) × (new ≡ old)

-- what the blocks that are left give
abbrev pub over : {X : Type 0} → (ℕ × ℕ → List X) → (ℕ → List X) → Blocks → List X
over each last b = in_blocks each last (bytes_of b.view) b.end b.at
