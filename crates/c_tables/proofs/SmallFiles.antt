-- A file whose headers have no fault has at most 2^32 bytes.
use Rattle.std.proofs.Common.{◌≡◌, ℕ, ◌^◌, ◌≤◌, List, length, None, refl}
use Rattle.std.proofs.lemmas.Bool.{ltb-false}
use Rattle.pe_view.specs.Faults.{first_standing}
use Rattle.pe_view.specs.FirstStanding.{none_stands}
use Rattle.pe_head.specs.HeaderFaults.{head_tests}

pub small_file : (image : ℕ) (file : List ℕ) → first_standing (head_tests image file) ≡ None → length file ≤ 2 ^ 32
unfolding head_tests
small_file image file none = ltb-false _ _ (none_stands (head_tests image file) 0 _ none refl)
