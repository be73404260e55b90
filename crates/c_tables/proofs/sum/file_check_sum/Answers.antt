-- The headers have no fault, so that the file is small.
use Rattle.std.proofs.Common.{length, ℕ, List, ◌^◌, ◌≤◌, subst, sym}
use Rattle.c_tables.proofs.SmallFiles.{small_file}
use Rattle.c_tables.proofs.sum.file_check_sum.Goals as goal

pub check_sum_record-requires : goal.check_sum_record-requires
check_sum_record-requires c = subst (λ (bytes : List ℕ). length bytes ≤ 2 ^ 32) (sym c.new.ensures) (small_file 0 c.args.file.now c.in_ok-headers.ensures.0)
