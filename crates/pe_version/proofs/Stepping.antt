-- What blocks give, one block at a time.
use Rattle.std.proofs.Common.{◌≡◌, ◌∙◌, refl, ℕ, zero, suc, ◌+◌, ◌<◌, ◌≤◌, Bool, true, false, List, ◌++◌, ap, sym, arith}
use Rattle.std.specs.Prelude.{if◌then◌else◌, nat_le, ◌&&◌}
use Rattle.std.proofs.lemmas.Bool.{and_parts, leb-true}
use Rattle.pe_version.specs.Blocks.{word, is_block, block_end, aligned, blocks_from, in_blocks}

by : {X : Type 0} (b : Bool) (x xs ys zs : List X) → (b ≡ true → xs ≡ ys) → (if b then x ++ xs else zs) ≡ (if b then x ++ ys else zs)
by {X = X} true x xs ys zs same = ap (λ (rest : List X). x ++ rest) (same refl)
by {X = X} false x xs ys zs same = refl

none : {X : Type 0} (b : Bool) (xs ys : List X) → (b ≡ true → ⊥) → (if b then xs else ys) ≡ ys
none true xs ys never = absurd (never refl)
none false xs ys never = refl

-- what a block says
roomy : (bytes : List ℕ) (end at : ℕ) → is_block bytes end at ≡ true → at + 6 ≤ end
roomy bytes end at is = leb-true (at + 6) end (and_parts (nat_le (at + 6) end) (nat_le 6 (word bytes at) && nat_le (at + word bytes at) end) is).0

long : (bytes : List ℕ) (end at : ℕ) → is_block bytes end at ≡ true → 6 ≤ word bytes at
long bytes end at is =
    leb-true 6 (word bytes at) (and_parts (nat_le 6 (word bytes at)) (nat_le (at + word bytes at) end)
    (and_parts (nat_le (at + 6) end) (nat_le 6 (word bytes at) && nat_le (at + word bytes at) end) is).1).0

further : (at len end n : ℕ) → 6 ≤ len → end ≤ at + suc n → end ≤ aligned (at + len) + n
further at len end n long le = omega (arith, long, le)

module _ {X : Type 0} (each : ℕ × ℕ → List X) (last : ℕ → List X) (bytes : List ℕ) (end : ℕ) where
  -- as many as can be are all
  enough : (n m at : ℕ) → end ≤ at + n → end ≤ at + m → blocks_from each last bytes end n at ≡ blocks_from each last bytes end m at
  enough zero zero at le le' = refl
  enough zero (suc m) at le le' =
      sym (none (is_block bytes end at) (each (at, block_end bytes at) ++ blocks_from each last bytes end m (aligned (block_end bytes at))) (last at)
      (λ is. let room = roomy bytes end at is in omega (arith, room, le)))
  enough (suc n) zero at le le' =
      none (is_block bytes end at) (each (at, block_end bytes at) ++ blocks_from each last bytes end n (aligned (block_end bytes at))) (last at)
      (λ is. let room = roomy bytes end at is in omega (arith, room, le'))
  enough (suc n) (suc m) at le le' =
      by (is_block bytes end at) (each (at, block_end bytes at)) (blocks_from each last bytes end n (aligned (block_end bytes at))) (blocks_from each last bytes end m (aligned (block_end bytes at))) (last at)
      (λ is. enough n m (aligned (block_end bytes at)) (further at (word bytes at) end n (long bytes end at is) le) (further at (word bytes at) end m (long bytes end at is) le'))

  -- a block, and those after it
  pub step : (at : ℕ) → is_block bytes end at ≡ true
      → in_blocks each last bytes end at ≡ each (at, block_end bytes at) ++ in_blocks each last bytes end (aligned (block_end bytes at))
  step at is = enough end (suc end) at (omega arith) (omega arith) ∙ rw is refl

  -- no block
  pub stop : (at : ℕ) → is_block bytes end at ≡ false → in_blocks each last bytes end at ≡ last at
  stop at not = enough end (suc end) at (omega arith) (omega arith) ∙ rw not refl

-- the place after a block is behind it
pub onward : (bytes : List ℕ) (end at : ℕ) → is_block bytes end at ≡ true → at < aligned (block_end bytes at)
onward bytes end at is = let some = long bytes end at is in omega (arith, some)
