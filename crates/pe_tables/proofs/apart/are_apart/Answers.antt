-- Ranges that rise have nothing in common, in whatever order.
use Rattle.std.proofs.Common.{ℕ, inl, inr}
use Rattle.std.proofs.lemmas.List.Sorted.{IsPermutation-sym}
use Rattle.pe_ranges.specs.Ranges.{AreApart}
use Rattle.pe_tables.proofs.Unordered.{all_pairs-permutation}
use Rattle.pe_tables.proofs.apart.are_apart.Goals as goal

back : (a b : ℕ × ℕ) → AreApart a b → AreApart b a
back a b (inl before) = inr before
back a b (inr behind) = inl behind

pub returns : goal.returns
returns c = λ yes.
    let pairs = c.is_rising.ensures yes in
    all_pairs-permutation AreApart back c.sort_unstable_by_key.new.self c.args.ranges.now
    (IsPermutation-sym c.args.ranges.now c.sort_unstable_by_key.new.self c.sort_unstable_by_key.ensures.permutation)
    (λ i j d lt within. inl (pairs i j d lt within))
