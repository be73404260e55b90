-- Two texts, unit by unit.
use Rattle.std.proofs.Common.{◌≡◌, ◌∙◌, refl, ℕ, zero, suc, ◌+◌, ◌*◌, ◌-◌, ◌<◌, Bool, true, false, ap, sym, arith}
use Rattle.std.specs.Prelude.{nat_lt, ◌&&◌}
use Rattle.std.proofs.lemmas.Bool.{ne_eqb, eq-eqb}
use Rattle.pe_layout.specs.Image.{LaidOut, number_at}
use Rattle.pe_resources.specs.Order.{text_units, units_below, is_text_below, is_after, ascends}
use Rattle.pe_resources.specs.Section.{entry_at}
use Rattle.pe_resources.specs.declared.entry.Entry.{Entry}

-- the second has no further unit
pub second_ended : (i : LaidOut) (start most a n b m : ℕ) → 0 < most → m ≡ 0 → units_below i start most a n b m ≡ false
unfolding units_below
second_ended i start zero a n b m some is = absurd (omega (arith, some))
second_ended i start (suc most) a n b m some is = rw is refl

-- the first has none, and the second has
pub first_ended : (i : LaidOut) (start most a n b m : ℕ) → (m ≡ 0 → ⊥) → n ≡ 0 → units_below i start most a n b m ≡ true
unfolding units_below
first_ended i start zero a n b m more is = refl
first_ended i start (suc most) a n b m more is = rw (ne_eqb m 0 more, is) refl

-- both have one, and these differ
pub units_differ : (i : LaidOut) (start most a n b m : ℕ) → 0 < most → (m ≡ 0 → ⊥) → (n ≡ 0 → ⊥) → (number_at 2 i (start + a) ≡ number_at 2 i (start + b) → ⊥)
    → units_below i start most a n b m ≡ nat_lt (number_at 2 i (start + a)) (number_at 2 i (start + b))
unfolding units_below
units_differ i start zero a n b m some more has other = absurd (omega (arith, some))
units_differ i start (suc most) a n b m some more has other = rw (ne_eqb m 0 more, ne_eqb n 0 has, ne_eqb (number_at 2 i (start + a)) (number_at 2 i (start + b)) other) refl

-- both have one, and these are the same
pub units_agree : (i : LaidOut) (start most a n b m : ℕ) → 0 < most → (m ≡ 0 → ⊥) → (n ≡ 0 → ⊥) → number_at 2 i (start + a) ≡ number_at 2 i (start + b)
    → units_below i start most a n b m ≡ units_below i start (most - 1) (a + 2) (n - 1) (b + 2) (m - 1)
unfolding units_below
units_agree i start zero a n b m some more has same = absurd (omega (arith, some))
units_agree i start (suc most) a n b m some more has same =
    let rest : most ≡ suc most - 1 = omega arith in
    rw (ne_eqb m 0 more, ne_eqb n 0 has, eq-eqb (number_at 2 i (start + a)) (number_at 2 i (start + b)) same) (ap (λ (k : ℕ). units_below i start k (a + 2) (n - 1) (b + 2) (m - 1)) rest)

-- nothing more is compared
pub units_done : (i : LaidOut) (start a n b m : ℕ) → units_below i start 0 a n b m ≡ true
unfolding units_below
units_done i start a n b m = refl

-- the comparison of two texts begins at their first units
pub from_start : (i : LaidOut) (start first second n m : ℕ) → n ≡ text_units i start first → m ≡ text_units i start second
    → is_text_below i start first second ≡ units_below i start (64 - 0) (first + 2 + 2 * 0) (n - 0) (second + 2 + 2 * 0) (m - 0)
from_start i start first second n m n_is m_is =
    ap (λ (x : ℕ). units_below i start 64 (first + 2) x (second + 2) (text_units i start second)) (sym n_is)
    ∙ ap (λ (x : ℕ). units_below i start 64 (first + 2) n (second + 2) x) (sym m_is)
    ∙ ap (λ (x : ℕ). units_below i start 64 x n (second + 2) m) first_same
    ∙ ap (λ (x : ℕ). units_below i start 64 (first + 2 + 2 * 0) n x m) second_same
    ∙ ap (λ (x : ℕ). units_below i start 64 (first + 2 + 2 * 0) x (second + 2 + 2 * 0) m) n_same
    ∙ ap (λ (x : ℕ). units_below i start 64 (first + 2 + 2 * 0) (n - 0) (second + 2 + 2 * 0) x) m_same
  where
    first_same : first + 2 ≡ first + 2 + 2 * 0
    first_same = omega arith

    second_same : second + 2 ≡ second + 2 + 2 * 0
    second_same = omega arith

    n_same : n ≡ n - 0
    n_same = omega arith

    m_same : m ≡ m - 0
    m_same = omega arith

-- one entry more
pub ascends_more : (i : LaidOut) (start offset k : ℕ) (before after : Bool) (e f : Entry) → before ≡ ascends i start offset k
    → e ≡ entry_at i start offset k → f ≡ entry_at i start offset (k + 1) → after ≡ (before && is_after i start e f) → after ≡ ascends i start offset (k + 1)
ascends_more i start offset k before after e f before_is e_is f_is after_is =
    let next : k + 1 ≡ suc k = omega arith in
    after_is ∙ ap (λ (x : Bool). x && is_after i start e f) before_is ∙ ap (λ (x : Entry). ascends i start offset k && is_after i start x f) e_is
    ∙ ap (λ (x : Entry). ascends i start offset k && is_after i start (entry_at i start offset k) x) (f_is ∙ ap (entry_at i start offset) next) ∙ ap (ascends i start offset) (sym next)
