-- Each symbol comes after the auxiliary records of the one before.
use Rattle.std.proofs.Common.{◌≡◌, ◌∙◌, ℕ, zero, suc, ◌+◌, ◌-◌, ◌<◌, ◌≤◌, List, [], ◌∷◌, Option, Some, None, refl, sym, ap, subst, arith, inl, inr}
use Rattle.std.specs.Prelude.{slice_get, nat_le}
use Rattle.std.proofs.lemmas.Bool.{cases_Bool, leb-true, leb-false}
use Rattle.std.proofs.lemmas.Option.{same_Some}
use Rattle.coff_read.specs.Reading.{aux_count, symbols_from}
use Rattle.coff_read.specs.RecordPlaces.{SymbolsBegin}
use Rattle.coff_read.specs.Strings.{record_count}
use Rattle.coff_read.proofs.Walk.{symbols-step}

-- only auxiliary records are left
all_skipped : (file : List ℕ) (k left skip : ℕ) → left ≤ skip → symbols_from file k left skip ≡ []
all_skipped file k zero skip le = refl
all_skipped file k (suc left) zero le = absurd (omega arith)
all_skipped file k (suc left) (suc skip) le = all_skipped file (k + 1) left skip (omega arith)

some_left : (file : List ℕ) (k left : ℕ) → 0 < left → slice_get (symbols_from file k left 0) 0 ≡ Some k
some_left file k zero lt = absurd (omega arith)
some_left file k (suc left) lt = refl

-- the symbols after the first one
behind_first : (file : List ℕ) (k left : ℕ) → k + 1 + aux_count file k ≤ k + left → symbols_from file k left 0 ≡ k ∷ symbols_from file (k + 1 + aux_count file k) (left - (1 + aux_count file k)) 0
behind_first file k left le =
    let sum : left ≡ 1 + aux_count file k + (left - (1 + aux_count file k)) = omega arith in
    ap (λ (n : ℕ). symbols_from file k n 0) sum ∙ symbols-step file k (left - (1 + aux_count file k))

alone : (file : List ℕ) (k left : ℕ) → 0 < left → left ≤ 1 + aux_count file k → symbols_from file k left 0 ≡ k ∷ []
alone file k zero some le = absurd (omega arith)
alone file k (suc left) some le = ap (λ (ks : List ℕ). k ∷ ks) (all_skipped file (k + 1) left (aux_count file k) (omega arith))

-- what follows the symbol of record m, in a table that ends at a record
record Follows (file : List ℕ) (end m : ℕ) (o : Option ℕ) : Type 0 where
  next : m + 1 + aux_count file m < end → o ≡ Some (m + 1 + aux_count file m)
  last : end ≤ m + 1 + aux_count file m → o ≡ None

get-tail : (k : ℕ) (ks : List ℕ) (i : ℕ) → slice_get (k ∷ ks) (i + 1) ≡ slice_get ks i
get-tail k ks i = ap (slice_get (k ∷ ks)) (let e : i + 1 ≡ suc i = omega arith in e)

first_follows : (file : List ℕ) (k left : ℕ) → 0 < left → Follows file (k + left) k (slice_get (symbols_from file k left 0) 1)
first_follows file k left some = record {
  next = λ lt.
      ap (λ (ks : List ℕ). slice_get ks 1) (behind_first file k left (omega arith))
      ∙ some_left file (k + 1 + aux_count file k) (left - (1 + aux_count file k)) (omega arith);
  last = λ le. ap (λ (ks : List ℕ). slice_get ks 1) (alone file k left some (omega arith));
}

none_is_left : (file : List ℕ) (k m i : ℕ) → slice_get (symbols_from file k 0 0) i ≡ Some m → ⊥
none_is_left file k m i is = cc

follows : (file : List ℕ) (i k left m : ℕ) → slice_get (symbols_from file k left 0) i ≡ Some m → Follows file (k + left) m (slice_get (symbols_from file k left 0) (i + 1))
follows file i k zero m is = absurd (none_is_left file k m i is)
follows file zero k (suc left) m is = subst (λ (n : ℕ). Follows file (k + suc left) n (slice_get (symbols_from file k (suc left) 0) 1)) (same_Some k m is) (first_follows file k (suc left) (omega arith))
follows file (suc i) k (suc left) m is = elim (cases_Bool (nat_le (1 + aux_count file k) (suc left))) [
  | inl more ↦
      (let le = leb-true (1 + aux_count file k) (suc left) more in
      let next : ℕ = k + 1 + aux_count file k in
      let rest : ℕ = suc left - (1 + aux_count file k) in
      let split = behind_first file k (suc left) (omega arith) in
      let there : slice_get (symbols_from file next rest 0) i ≡ Some m = sym (ap (λ (ks : List ℕ). slice_get ks (suc i)) split) ∙ is in
      let end : next + rest ≡ k + suc left = omega arith in
      let same : slice_get (symbols_from file next rest 0) (i + 1) ≡ slice_get (symbols_from file k (suc left) 0) (suc i + 1) =
      sym (ap (λ (ks : List ℕ). slice_get ks (suc i + 1)) split ∙ get-tail k (symbols_from file next rest 0) (suc i) ∙ ap (slice_get (symbols_from file next rest 0)) (let e : suc i ≡ i + 1 = omega arith in e)) in
      subst (λ (n : ℕ). Follows file n m (slice_get (symbols_from file k (suc left) 0) (suc i + 1))) end
      (subst (Follows file (next + rest) m) same (follows file i next rest m there)))
  | inr fewer ↦
      (let lt = leb-false (1 + aux_count file k) (suc left) fewer in
      let only = alone file k (suc left) (omega arith) (omega arith) in
      let there : slice_get {X = ℕ} (k ∷ []) (suc i) ≡ Some m = sym (ap (λ (ks : List ℕ). slice_get ks (suc i)) only) ∙ is in
      absurd cc)
]

pub symbols_begin : (file : List ℕ) → SymbolsBegin file
symbols_begin file = record {
  first = some_left file 0 (record_count file);
  none = λ e. ap (λ (n : ℕ). slice_get (symbols_from file 0 n 0) 0) e;
  next = λ i k is lt. (follows file i 0 (record_count file) k is).next (omega arith);
  last = λ i k is le. (follows file i 0 (record_count file) k is).last (omega arith);
}
