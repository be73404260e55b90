-- A test over the elements that a view makes of a list's.
use Rattle.std.proofs.Common.{◌≡◌, Bool, List, [], ◌∷◌, refl, ap}
use Rattle.std.specs.Prelude.{map, ◌||◌}
use Rattle.std.specs.List.{list_any}

pub any-map : {X Y : Type 0} (view : X → Y) (test : Y → Bool) (xs : List X) → list_any (λ x. test (view x)) xs ≡ list_any test (map view xs)
any-map view test [] = refl
any-map view test (x ∷ xs) = ap (λ (b : Bool). test (view x) || b) (any-map view test xs)
