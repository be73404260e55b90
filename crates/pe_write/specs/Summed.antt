-- The file of an image with its CheckSum.
use Rattle.std.specs.Prelude.{ℕ, Bool, List, is_none, if◌then◌else◌}
use Rattle.pe_view.specs.Faults.{first_standing}
use Rattle.pe_head.specs.Head.{head_of}
use Rattle.pe_head.specs.HeaderFaults.{head_tests}
use Rattle.pe_trust.specs.CheckSum.{check_sum_of}
use Rattle.pe_write.specs.Rebase.{rebased, check_sum_place, put}

-- with the checksum of a file, whose own field does not count, in that field
abbrev pub summed : List ℕ → List ℕ
summed file = put file (check_sum_place (head_of file)) 4 (check_sum_of file (check_sum_place (head_of file)))

-- unchanged if its headers have a fault
unfoldable pub with_check_sum : List ℕ → List ℕ
with_check_sum file = if is_none (first_standing (head_tests 0 file)) then summed file else file

-- the file for a base, with its CheckSum if it is asked for
abbrev pub rebased_as : Bool → List ℕ → ℕ → List ℕ
rebased_as check_sum file base = if check_sum then with_check_sum (rebased file base) else rebased file base
