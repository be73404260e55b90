-- What a move of an image returns, and what it leaves.
use Rattle.std.specs.Prelude.{◌≡◌, ℕ, None, Some, Result, Ok, Err}
use Rattle.pe_view.specs.declared.fault.Fault.{Fault}
use Rattle.pe_space.specs.Content.{Content}
use Rattle.pe_space.specs.Moves.{move_fault, moved, moved_counts}
use Rattle.pe_space.specs.declared.space.Moved.{Moved}

-- of image i to a base: the counts and the moved image, or the first fault and no change
abbrev pub IsMoved : Content → ℕ → ℕ → Result Moved Fault → Content → Type 0
IsMoved before i base (Ok counts) after = (move_fault before i base ≡ None) × (after ≡ moved before i base) × (counts ≡ moved_counts before i)
IsMoved before i base (Err fault) after = (move_fault before i base ≡ Some fault) × (after ≡ before)
