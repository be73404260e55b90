-- How long names are. No contract of a public function cites it.
use Rattle.std.specs.Prelude.{◌≤◌, ℕ, List, length, All}

-- none of these names has more bytes
abbrev pub AreWithin : ℕ → List (List ℕ) → Type 0
AreWithin longest names = All (λ name. length name ≤ longest) names
