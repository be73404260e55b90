-- How far the tests of a table went.
use Rattle.std.specs.Prelude.{◌==◌, ◌||◌, ℕ, Bool, false, if◌then◌else◌, List, [], ◌∷◌}
use Rattle.pe_view.specs.Faults.{Test}

-- a test of this number was made, and neither it nor one before holds
abbrev pub goes_past : ℕ → List Test → Bool
goes_past number [] = false
goes_past number (t ∷ ts) = if t.stands then false else ((t.fault.number == number) || goes_past number ts)
