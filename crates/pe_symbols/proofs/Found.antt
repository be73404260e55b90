-- What is found symbol by symbol.
use Rattle.std.proofs.Common.{◌≡◌, ◌≢◌, ◌∙◌, ℕ, List, ◌∷◌, ◌++◌, [], sym, ap, append_assoc}
use Rattle.std.specs.List.{flat_map}
use Rattle.coff_read.specs.Records.{Symbol}
use Rattle.pe_view.specs.declared.fault.Fault.{Fault}
use Rattle.pe_view.specs.Faults.{Test}
use Rattle.pe_view.specs.Standing.{standing}
use Rattle.pe_view.specs.AllStanding.{some_after, some_before, standing-append}

module _ (tests : ℕ × Symbol → List Test) (here : ℕ × Symbol) (left more : List (ℕ × Symbol)) (is : left ≡ here ∷ more) where
  -- its findings were added
  pub found_more : (old new whole : List Fault) → new ≡ old ++ standing (tests here) → old ++ standing (flat_map tests left) ≡ whole → new ++ standing (flat_map tests more) ≡ whole
  found_more old new whole after inv =
      let rest = flat_map tests more in
      ap (λ (fs : List Fault). fs ++ standing rest) after
      ∙ append_assoc old (standing (tests here)) (standing rest)
      ∙ ap (λ (fs : List Fault). old ++ fs) (sym (standing-append (tests here) rest))
      ∙ ap (λ (all : List (ℕ × Symbol)). old ++ standing (flat_map tests all)) (sym is)
      ∙ inv

  -- it has one, or a later symbol does
  pub some_here : standing (tests here) ≢ [] → standing (flat_map tests left) ≢ []
  some_here some = rw is (some_before (tests here) (flat_map tests more) some)

  pub some_later : standing (flat_map tests more) ≢ [] → standing (flat_map tests left) ≢ []
  some_later some = rw is (some_after (tests here) (flat_map tests more) some)
