-- What is found among items is found among what these show.
use Rattle.std.proofs.Common.{◌≡◌, ◌==◌, ◌∙◌, ℕ, Bool, true, false, List, [], ◌∷◌, Option, None, Some, map, option_map, cond, refl, ap}
use Rattle.std.specs.List.{find}
use Rattle.pe_tables.specs.ExportsView.{ordinal_view}
use Rattle.pe_tables.specs.Key.{target_view}
use Rattle.pe_tables.specs.declared.key.Target as code_target

by_case : {X Y : Type 0} (f : X → Y) (p : Y → Bool) (b : Bool) (x : X) (rest : Option Y) (found : Option X) → rest ≡ option_map f found
    → cond b (Some (f x)) rest ≡ option_map f (cond b (Some x) found)
by_case f p true x rest found e = refl
by_case f p false x rest found e = e

pub found_shown : {X Y : Type 0} (f : X → Y) (p : Y → Bool) (xs : List X) → find p (map f xs) ≡ option_map f (find (λ x. p (f x)) xs)
found_shown f p [] = refl
found_shown f p (x ∷ xs) = by_case f p (p (f x)) x (find p (map f xs)) (find (λ y. p (f y)) xs) (found_shown f p xs)

shown_target : (found : Option (ℕ × code_target.Target)) → option_map (λ (e : ℕ × _). e.1) (option_map ordinal_view found) ≡ option_map target_view (option_map (λ (e : ℕ × code_target.Target). e.1) found)
shown_target None = refl
shown_target (Some x) = refl

pub target_found : (xs : List (ℕ × code_target.Target)) (ordinal : ℕ)
    → option_map (λ (e : ℕ × _). e.1) (find (λ (e : ℕ × _). e.0 == ordinal) (map ordinal_view xs)) ≡ option_map target_view (option_map (λ (e : ℕ × code_target.Target). e.1) (find (λ (e : ℕ × code_target.Target). e.0 == ordinal) xs))
target_found xs ordinal =
    ap (option_map (λ (e : ℕ × _). e.1)) (found_shown ordinal_view (λ (e : ℕ × _). e.0 == ordinal) xs) ∙ shown_target (find (λ (e : ℕ × code_target.Target). e.0 == ordinal) xs)
