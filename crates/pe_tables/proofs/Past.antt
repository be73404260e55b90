-- How far the tests of a table went.
use Rattle.std.proofs.Common.{◌≡◌, ℕ, Bool, true, false, cond, List, [], ◌∷◌, ◌++◌, None, refl}
use Rattle.std.specs.Prelude.{◌==◌, ◌||◌, IsTrue}
use Rattle.pe_view.specs.Faults.{Test, first_standing}
use Rattle.pe_view.specs.FirstStanding.{none-append, none_stands}
use Rattle.pe_tables.specs.TableFaults.{goes_past}

or_later : (a b : Bool) → IsTrue b → IsTrue (a || b)
or_later true b h = refl
or_later false b h = h

module _ (number : ℕ) where
  -- after tests none of which holds
  pub past-later : (front rest : List Test) → first_standing front ≡ None → IsTrue (goes_past number rest) → IsTrue (goes_past number (front ++ rest))
  past-later [] rest none past = past
  past-later (t ∷ front) rest none past =
      let here : t.stands ≡ false = none_stands (t ∷ front) 0 t none refl in
      rw here (or_later (t.fault.number == number) (goes_past number (front ++ rest)) (past-later front rest (none-append (t ∷ []) front none).1 past))

  in_test : (stands same : Bool) (rest more : Bool) → (IsTrue rest → IsTrue more) → IsTrue (cond stands false (same || rest)) → IsTrue (cond stands false (same || more))
  in_test true same rest more step past = absurd cc
  in_test false true rest more step past = refl
  in_test false false rest more step past = step past

  -- among the first tests
  pub past-in : (front rest : List Test) → IsTrue (goes_past number front) → IsTrue (goes_past number (front ++ rest))
  past-in [] rest past = absurd cc
  past-in (t ∷ front) rest past = in_test t.stands (t.fault.number == number) (goes_past number front) (goes_past number (front ++ rest)) (past-in front rest) past
