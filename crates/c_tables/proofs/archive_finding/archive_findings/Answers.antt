-- Where memory is wanted, there is a finding.
use Rattle.std.proofs.Common.{◌≡◌, refl, List, [], ◌∷◌, ◌++◌, Result, Ok, Err}
use Rattle.std.specs.Prelude.{OnErr}
use Rattle.c_tables.proofs.archive_finding.archive_findings.Goals as goal

front_empty : {X : Type 0} (xs ys : List X) → xs ++ ys ≡ [] → xs ≡ []
front_empty [] ys none = refl
front_empty (x ∷ xs) ys none = cc

back_empty : {X : Type 0} (xs ys : List X) → xs ++ ys ≡ [] → ys ≡ []
back_empty [] ys none = none
back_empty (x ∷ xs) ys none = cc

on_err : {T E P : Type 0} (r : Result T E) → P → OnErr r P
on_err (Ok x) holds = tt
on_err (Err e) holds = holds

pub returns-in_err-found-clause-memory : goal.returns-in_err-found-clause-memory
returns-in_err-found-clause-memory c = on_err c.from_residual.result (λ none. c.in_err-found.ensures.memory (front_empty _ _ none))

pub returns-in_err-find_imports-clause-memory : goal.returns-in_err-find_imports-clause-memory
returns-in_err-find_imports-clause-memory c = on_err c.from_residual-in_err-find_imports.result (λ none. c.in_err-find_imports.ensures.wants (back_empty _ _ none))
