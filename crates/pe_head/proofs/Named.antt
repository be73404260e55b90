-- Names looked up in a table of the code and in that of the definitions.
use Rattle.std.proofs.Common.{◌≡◌, ◌==◌, ℕ, Bool, true, false, List, [], ◌∷◌, map, Some, option_map, cond, refl}
use Rattle.std.specs.List.{find}
use Rattle.pe_head.specs.Names.{name_in, name_view}
use denote.Bor.{Bor}

-- a row of a table of the code
abbrev Row : Type 0
Row = ℕ × Bor (List ℕ)

pub named : (rows : List (ℕ × Bor (List ℕ))) (value : ℕ) → name_in (map name_view rows) value ≡ option_map (λ (row : ℕ × Bor (List ℕ)). row.1.now) (find (λ (row : ℕ × Bor (List ℕ)). row.0 == value) rows)
named [] value = refl
named (row ∷ rows) value = by (row.0 == value) (named rows value)
  where
    by : (b : Bool) → name_in (map name_view rows) value ≡ option_map (λ (r : Row). r.1.now) (find (λ (r : Row). r.0 == value) rows)
        → option_map (λ (r : ℕ × List ℕ). r.1) (cond b (Some (name_view row)) (find (λ (r : ℕ × List ℕ). r.0 == value) (map name_view rows))) ≡ option_map (λ (r : Row). r.1.now) (cond b (Some row) (find (λ (r : Row). r.0 == value) rows))
    by true e = refl
    by false e = e
