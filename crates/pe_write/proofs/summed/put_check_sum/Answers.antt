use Rattle.std.proofs.Common.{◌≡◌, ◌^◌, ◌≤◌, ℕ, List, length, None, refl, subst}
use Rattle.std.proofs.lemmas.Bool.{ltb-false}
use Rattle.pe_view.specs.Faults.{first_standing}
use Rattle.pe_view.specs.FirstStanding.{none_stands}
use Rattle.pe_head.specs.HeaderFaults.{head_tests}
use Rattle.pe_write.proofs.Rebasable.{check_sum_held}
use Rattle.pe_write.proofs.summed.put_check_sum.Goals as goal

-- a file without fault 1 has at most 2 ^ 32 bytes
small : (file : List ℕ) → first_standing (head_tests 0 file) ≡ None → length file ≤ 2 ^ 32
unfolding head_tests
small file none = ltb-false _ _ (none_stands (head_tests 0 file) 0 _ none refl)

pub check_sum-sum-requires : goal.check_sum-sum-requires
check_sum-sum-requires c = small _ c.in_ok-headers.ensures.0

pub write_low-requires-clause-inside : goal.write_low-requires-clause-inside
write_low-requires-clause-inside c =
    let none = subst (λ (file : List ℕ). first_standing (head_tests 0 file) ≡ None) c.new-view.ensures c.in_ok-headers.ensures.0 in
    rw c.in_ok-headers.ensures.1 (rw c.new-view.ensures (check_sum_held c.args.file.now none))
