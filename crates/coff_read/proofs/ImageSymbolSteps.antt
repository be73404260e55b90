-- The symbols of an image, one symbol more.
use Rattle.std.proofs.Common.{◌≡◌, ℕ, ◌+◌, ◌-◌, ◌*◌, List, ◌∷◌, Option, refl, ap, arith}
use Rattle.std.specs.Prelude.{min, suc, zero}
use Rattle.coff_read.specs.Field.{field}
use Rattle.coff_read.specs.ImageSymbols.{image_symbol_at, image_symbols_from}
use Rattle.coff_read.specs.Records.{Symbol}

module _ (file : List ℕ) (strings : Option (List ℕ)) (start : ℕ) where
  -- the symbols after auxiliary records, as many as there are
  skipped : (k left skip next rest : ℕ) → next ≡ k + min skip left → rest ≡ left - min skip left
      → image_symbols_from file strings start k left skip ≡ image_symbols_from file strings start next rest 0
  skipped k zero skip next rest further fewer = let none : rest ≡ 0 = omega (arith, fewer) in rw none refl
  skipped k (suc left) zero next rest further fewer =
      let here : next ≡ k = omega (arith, further) in let all : rest ≡ suc left = omega (arith, fewer) in rw (here, all) refl
  skipped k (suc left) (suc skip) next rest further fewer = skipped (k + 1) left skip next rest (omega (arith, further)) (omega (arith, fewer))

  pub step : (k left records next : ℕ) → records - k ≡ suc left → next ≡ k + 1 + min (field file (start + 18 * k) 17 1) left
      → image_symbols_from file strings start k (records - k) 0
      ≡ (k, image_symbol_at file strings (start + 18 * k) left) ∷ image_symbols_from file strings start next (records - next) 0
  step k left records next some is =
      rw some (ap (λ (rest : List (ℕ × Symbol)). (k, image_symbol_at file strings (start + 18 * k) left) ∷ rest)
      (skipped (k + 1) left (field file (start + 18 * k) 17 1) next (records - next) (omega (arith, is)) (omega (arith, some, is))))
