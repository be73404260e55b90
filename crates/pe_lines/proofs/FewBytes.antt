-- A file whose headers have no fault has at most 2^32 bytes.
use Rattle.std.proofs.Common.{◌≡◌, ◌≤◌, ◌^◌, refl, ℕ, Bool, cond, true, false, List, length}
use Rattle.std.specs.Prelude.{Option, None, Some, nat_lt}
use Rattle.std.proofs.lemmas.Bool.{ltb-false}
use Rattle.pe_view.specs.declared.fault.Fault.{Fault}
use Rattle.pe_view.specs.Faults.{first_standing}
use Rattle.pe_head.specs.HeaderFaults.{head_tests}

not_first : (stands : Bool) (fault : Fault) (later : Option Fault) → cond stands (Some fault) later ≡ None → stands ≡ false
not_first true fault later none = absurd cc
not_first false fault later none = refl

pub few_bytes : (image : ℕ) (file : List ℕ) → first_standing (head_tests image file) ≡ None → length file ≤ 2 ^ 32
unfolding head_tests
few_bytes image file none = ltb-false (2 ^ 32) (length file) (not_first (nat_lt (2 ^ 32) (length file)) _ _ none)
