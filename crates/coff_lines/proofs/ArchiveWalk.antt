-- One member after the other.
use Rattle.std.proofs.Common.{◌≡◌, ◌∙◌, ℕ, List, ◌∷◌, ◌++◌, Option, Some, None, refl, ap, sym, append_assoc}
use Rattle.std.specs.List.{flat_map}
use Rattle.std.specs.Option.{option_or}
use Rattle.pe_view.specs.declared.fault.Fault.{Fault}
use Rattle.pe_view.specs.Faults.{Test, first_standing}
use Rattle.pe_view.specs.FirstStanding.{first-append}

or_assoc : (a b c : Option Fault) → option_or (option_or a b) c ≡ option_or a (option_or b c)
or_assoc None b c = refl
or_assoc (Some x) b c = refl

pub or_none : (a : Option Fault) → option_or a None ≡ a
or_none None = refl
or_none (Some x) = refl

-- the first fault so far and of what is left, with one item more
pub first_more : {X : Type 0} (tests : X → List Test) (x : X) (left more : List X) (first fault now whole : Option Fault) → left ≡ x ∷ more
    → now ≡ option_or first fault → fault ≡ first_standing (tests x) → option_or first (first_standing (flat_map tests left)) ≡ whole
    → option_or now (first_standing (flat_map tests more)) ≡ whole
first_more tests x left more first fault now whole is after found inv =
    ap (λ (f : Option Fault). option_or f (first_standing (flat_map tests more))) after
    ∙ or_assoc first fault (first_standing (flat_map tests more))
    ∙ ap (λ (f : Option Fault). option_or first (option_or f (first_standing (flat_map tests more)))) found
    ∙ ap (option_or first) (sym (first-append (tests x) (flat_map tests more)))
    ∙ ap (λ (xs : List _). option_or first (first_standing (flat_map tests xs))) (sym is)
    ∙ inv

-- the text so far and of what is left, with one item more
pub text_more : {X : Type 0} (text : X → List ℕ) (x : X) (left more : List X) (written whole : List ℕ) → left ≡ x ∷ more
    → written ++ flat_map text left ≡ whole → (written ++ text x) ++ flat_map text more ≡ whole
text_more text x left more written whole is inv =
    append_assoc written (text x) (flat_map text more) ∙ ap (λ (xs : List _). written ++ flat_map text xs) (sym is) ∙ inv
