-- The faults that are there, one after the other.
use Rattle.std.proofs.Common.{◌≡◌, ◌≤◌, List, [], ◌∷◌, ◌++◌, length, Option, Some, None, refl, sym, ap, arith}
use Rattle.std.proofs.lemmas.List.{append-nil}
use Rattle.pe_view.specs.declared.fault.Fault.{Fault}
use Rattle.pe_records_c.specs.Faults.{fault_record}
use Rattle.pe_records_c.specs.Rows.{filled}
use Rattle.pe_records_c.specs.declared.fault.FaultRecord.{FaultRecord}
use Rattle.c_tables.specs.TrustFindings.{present, stored}
use Rattle.c_tables.proofs.FilledRows.{filled_behind}

pub present_more : (xs ys : List (Option Fault)) → present (xs ++ ys) ≡ present xs ++ present ys
present_more [] ys = refl
present_more (None ∷ xs) ys = present_more xs ys
present_more (Some x ∷ xs) ys = ap (λ (rest : List Fault). x ∷ rest) (present_more xs ys)

-- one that is stored after the others
pub stored_behind : (found : Option Fault) (done : List Fault) (old : List FaultRecord) → stored (length done) found (filled fault_record done old) ≡ filled fault_record (done ++ present (found ∷ [])) old
stored_behind None done old = ap (λ (faults : List Fault). filled fault_record faults old) (sym (append-nil done))
stored_behind (Some fault) done old = filled_behind fault_record done old fault

pub one_at_most : (found : Option Fault) → length (present (found ∷ [])) ≤ 1
one_at_most None = omega arith
one_at_most (Some fault) = omega arith

pub present_few : (xs : List (Option Fault)) → length (present xs) ≤ length xs
present_few [] = omega arith
present_few (None ∷ xs) = let few = present_few xs in omega (arith, few)
present_few (Some x ∷ xs) = let few = present_few xs in omega (arith, few)
