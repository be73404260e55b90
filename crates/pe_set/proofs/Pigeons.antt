-- Of more numbers than there are values two are the same.
use Rattle.std.proofs.Common.{◌≡◌, ◌∙◌, ◌<◌, ◌≤◌, ◌⊎◌, ℕ, zero, suc, refl, sym, ap, arith, inl, inr}
use Rattle.std.proofs.lemmas.Bool.{cases_lt, cases_eq}

abbrev Met : (ℕ → ℕ) → ℕ → ℕ → Type 0
Met f y n = (t : ℕ) × (t < n) × (f t ≡ y)

look_for : (f : ℕ → ℕ) (y n : ℕ) → Met f y n ⊎ ((t : ℕ) → t < n → f t ≡ y → ⊥)
look_for f y zero = inr (λ t lt e. absurd (omega (arith, lt)))
look_for f y (suc n) = elim (look_for f y n) [
  | inl met ↦ inl (met.0, (let lt = met.1 in omega (arith, lt)), met.2)
  | inr none ↦ elim (cases_eq (f n) y) [
    | inl e ↦ inl (n, omega arith, e)
    | inr other ↦ inr (λ t lt e. elim (cases_eq t n) [
      | inl last ↦ other (ap f (sym last) ∙ e)
      | inr before ↦ elim (cases_lt t n) [
        | inl below ↦ none t below e
        | inr above ↦ before (omega (arith, lt, above))
      ]
    ])
  ]
]

abbrev pub Twice : (ℕ → ℕ) → ℕ → Type 0
Twice f n = (a : ℕ) × (b : ℕ) × (a < b) × (b ≤ n) × (f a ≡ f b)

-- one of two numbers, by which of two facts holds
abbrev pick : {P Q : Type 0} → P ⊎ Q → ℕ → ℕ → ℕ
pick (inl p) a b = a
pick (inr q) a b = b

picked : {P Q : Type 0} (d : P ⊎ Q) (a b : ℕ) → (P × (pick d a b ≡ a)) ⊎ (Q × (pick d a b ≡ b))
picked (inl p) a b = inl (p, refl)
picked (inr q) a b = inr (q, refl)

-- the value of m + 1 in place of m
abbrev swapped : (ℕ → ℕ) → ℕ → ℕ → ℕ
swapped f m t = pick (cases_eq (f t) m) (f (suc m)) (f t)

module _ (f : ℕ → ℕ) (m : ℕ) (all : (t : ℕ) → t ≤ suc m → f t < suc m) (none : (t : ℕ) → t < suc m → f t ≡ f (suc m) → ⊥) where
  below : (t : ℕ) → t ≤ m → swapped f m t < m
  below t le =
      let here : f t < suc m = all t (omega (arith, le)) in
      let last : f (suc m) < suc m = all (suc m) (omega arith) in
      elim (picked (cases_eq (f t) m) (f (suc m)) (f t)) [
        | inl both ↦
            (let is = both.0 in
            let other : f (suc m) ≡ m → ⊥ = (λ e. none t (omega (arith, le)) (is ∙ sym e)) in
            elim (cases_lt (f (suc m)) m) [
              | inl lt ↦ (let e = both.1 in omega (arith, e, lt))
              | inr ge ↦ absurd (other (omega (arith, ge, last)))
            ])
        | inr both ↦
            elim (cases_lt (f t) m) [
              | inl lt ↦ (let e = both.1 in omega (arith, e, lt))
              | inr ge ↦ absurd (both.0 (omega (arith, ge, here)))
            ]
      ]

  same : (a b : ℕ) → a ≤ m → b ≤ m → swapped f m a ≡ swapped f m b → f a ≡ f b
  same a b le_a le_b e =
      elim (picked (cases_eq (f a) m) (f (suc m)) (f a)) [
        | inl of_a ↦ elim (picked (cases_eq (f b) m) (f (suc m)) (f b)) [
          | inl of_b ↦ of_a.0 ∙ sym of_b.0
          | inr of_b ↦ absurd (none b (omega (arith, le_b)) (sym of_b.1 ∙ sym e ∙ of_a.1))
        ]
        | inr of_a ↦ elim (picked (cases_eq (f b) m) (f (suc m)) (f b)) [
          | inl of_b ↦ absurd (none a (omega (arith, le_a)) (sym of_a.1 ∙ e ∙ of_b.1))
          | inr of_b ↦ sym of_a.1 ∙ e ∙ of_b.1
        ]
      ]

-- of n + 1 numbers below n, two are the same
pub pigeons : (n : ℕ) (f : ℕ → ℕ) → ((t : ℕ) → t ≤ n → f t < n) → Twice f n
pigeons zero f all = let lt = all 0 (omega arith) in absurd (omega (arith, lt))
pigeons (suc m) f all = elim (look_for f (f (suc m)) (suc m)) [
  | inl met ↦ (met.0, suc m, met.1, omega arith, met.2)
  | inr none ↦
      (let twice = pigeons m (swapped f m) (below f m all none) in
      let lt = twice.2 in
      let le = twice.3 in
      (twice.0, twice.1, lt, omega (arith, le), same f m all none twice.0 twice.1 (omega (arith, lt, le)) le twice.4))
]
