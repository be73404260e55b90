-- The chain of a function ends.
use Rattle.std.proofs.Common.{ℕ, zero, suc, ◌≤◌, List, [], length, Option, Some, None, arith}
use Rattle.std.specs.Prelude.{Result, Ok, Err}
use Rattle.pe_view.specs.declared.fault.Fault.{Fault}
use Rattle.pe_layout.specs.Image.{LaidOut}
use Rattle.pe_records.specs.declared.function.Function.{Function}
use Rattle.pe_unwind.specs.Chains.{and_after, chain_from, next_of}

module _ (i : LaidOut) where
  one_more : (o : Option (Result Function Fault)) (rest : Function → List (Result Function Fault)) (n : ℕ) → ((g : Function) → length (rest g) ≤ n) → length (and_after o rest) ≤ suc n
  one_more None rest n few = omega arith
  one_more (Some (Err fault)) rest n few = omega arith
  one_more (Some (Ok g)) rest n few = let le = few g in omega (arith, le)

  -- it has one item more than functions that may follow
  pub chain_few : (more : ℕ) (f : Function) → length (chain_from i more f) ≤ suc more
  chain_few zero f = one_more (next_of i 0 f) (λ _. []) 0 (λ g. omega arith)
  chain_few (suc more) f = one_more (next_of i (suc more) f) (chain_from i more) (suc more) (chain_few more)
