-- A long name is compared by its front.
use Rattle.std.proofs.Common.{◌≡◌, refl, ℕ, zero, suc, ◌+◌, ◌-◌, ◌<◌, ◌≤◌, Bool, true, false, List, [], ◌∷◌, length, take, Option, Some, None, inl, inr, sym, subst, ap, arith}
use Rattle.std.specs.Prelude.{option_map, filter, find, slice_get, Result, Ok, Err, if◌then◌else◌}
use Rattle.std.specs.Option.{option_or}
use Rattle.std.specs.Str.{bytes_eq}
use Rattle.std.proofs.lemmas.Bool.{cases_Bool}
use Rattle.std.proofs.lemmas.List.{length-take-le}
use Rattle.std.proofs.lemmas.Option.{same_Some}
use Rattle.std.proofs.lemmas.Slice.Eq.{bytes_eq-Decides}
use Rattle.pe_view.specs.Number.{byte_of}
use Rattle.coff_archive.specs.Bytes.{before}
use Rattle.pe_view.specs.declared.fault.Fault.{Fault}
use Rattle.coff_archive.specs.Members.{Member}
use Rattle.coff_archive.specs.Named.{is_name, is_fault, reads_named}
use Rattle.coff_archive.specs.Names.{ends_text, is_slash, without_slash}

-- one byte more of a front whose end is found
front_step : (b : ℕ) (x y : Option (List ℕ)) (text : List ℕ) → ((t : List ℕ) → x ≡ Some t → y ≡ Some t) → option_map (λ t. b ∷ t) x ≡ Some text → option_map (λ t. b ∷ t) y ≡ Some text
front_step b None y text more is = absurd cc
front_step b (Some t) y text more is = rw (more t refl) is

-- an end that is found in the front is the first
pub before_front : (test : ℕ → Bool) (bytes text : List ℕ) (n : ℕ) → before test (take n bytes) ≡ Some text → before test bytes ≡ Some text
before_front test [] text zero is = is
before_front test [] text (suc n) is = is
before_front test (b ∷ bytes) text zero is = absurd cc
before_front test (b ∷ bytes) text (suc n) is = elim (cases_Bool (test b)) [
  | inl here ↦ (let found = rw here at is in rw here found)
  | inr other ↦
      let found = rw other at is in
      rw other (front_step b (before test (take n bytes)) (before test bytes) text (λ t e. before_front test bytes t n e) found)
]

past_step : (b n : ℕ) (x y : Option (List ℕ)) (text : List ℕ) → ((t : List ℕ) → x ≡ Some t → y ≡ None → n ≤ length t) → option_map (λ t. b ∷ t) x ≡ Some text → option_map (λ t. b ∷ t) y ≡ None → suc n ≤ length text
past_step b n None y text more is none = absurd cc
past_step b n (Some t) None text more is none =
    let rest = more t refl refl in
    let len = ap length (same_Some (b ∷ t) text is) in
    omega (arith, rest, len)
past_step b n (Some t) (Some u) text more is none = absurd cc

-- an end that is not found in the front comes after it
pub past_front : (test : ℕ → Bool) (bytes text : List ℕ) (n : ℕ) → before test bytes ≡ Some text → before test (take n bytes) ≡ None → n ≤ length text
past_front test [] text n is none = absurd cc
past_front test (b ∷ bytes) text zero is none = omega arith
past_front test (b ∷ bytes) text (suc n) is none = elim (cases_Bool (test b)) [
  | inl here ↦ (let found = rw here at none in absurd cc)
  | inr other ↦
      let found = rw other at is in
      let missing = rw other at none in
      past_step b n (before test bytes) (before test (take n bytes)) text (λ t e f. past_front test bytes t n e f) found missing
]

shorter_step : (b n : ℕ) (x : Option (List ℕ)) (text : List ℕ) → ((t : List ℕ) → x ≡ Some t → length t < n) → option_map (λ t. b ∷ t) x ≡ Some text → length text < suc n
shorter_step b n None text more is = absurd cc
shorter_step b n (Some t) text more is =
    let rest = more t refl in
    let len = ap length (same_Some (b ∷ t) text is) in
    omega (arith, rest, len)

-- the end is one of the bytes
pub shorter : (test : ℕ → Bool) (bytes text : List ℕ) → before test bytes ≡ Some text → length text < length bytes
shorter test [] text is = absurd cc
shorter test (b ∷ bytes) text is = elim (cases_Bool (test b)) [
  | inl here ↦
      let found = rw here at is in
      let none = ap length (same_Some [] text found) in
      omega (arith, none)
  | inr other ↦
      let found = rw other at is in
      shorter_step b (length bytes) (before test bytes) text (λ t e. shorter test bytes t e) found
]

-- at most the last byte of a name is taken away
without_one : (text : List ℕ) → length text ≤ length (without_slash text) + 1
without_one text = elim (cases_Bool (is_slash (byte_of text (length text - 1)))) [
  | inl ends ↦
      let left = length-take-le (length text - 1) text (omega arith) in
      rw ends (omega (arith, left))
  | inr other ↦ rw other (omega arith)
]

-- a longer text is another
longer : (text name : List ℕ) → length name < length text → bytes_eq text name ≡ false
longer text name more = elim (cases_Bool (bytes_eq text name)) [
  | inl same ↦ (let len = ap length ((bytes_eq-Decides text name).0 same) in absurd (omega (arith, more, len)))
  | inr other ↦ other
]

-- a name whose end is in the front
pub name_in_front : (text name front : List ℕ) (most : ℕ) → before ends_text (take most text) ≡ Some front → bytes_eq (without_slash front) name ≡ is_name name (option_map without_slash (before ends_text text))
name_in_front text name front most is = rw (before_front ends_text text front most is) refl

-- one that passes it
pub name_past_front : (text name : List ℕ) (most : ℕ) → ((n : ℕ) → most ≤ n → n < length text → length name + 2 ≤ n) → before ends_text (take most text) ≡ None → false ≡ is_name name (option_map without_slash (before ends_text text))
name_past_front text name most enough none = by (before ends_text text) refl
  where
    by : (x : Option (List ℕ)) → before ends_text text ≡ x → false ≡ is_name name (option_map without_slash x)
    by None is = refl
    by (Some t) is =
        let long = enough (length t) (past_front ends_text text t most is none) (shorter ends_text text t is) in
        let left = without_one t in
        sym (longer (without_slash t) name (omega (arith, long, left)))

-- The members with a name, one step of the walk after the other.
pub taken : (names name : List ℕ) (reads more : List (Result Member Fault)) (read : Result Member Fault) (left : ℕ) (fault : Option (Result Member Fault)) (whole : Option (Result Member Fault))
    → reads ≡ read ∷ more → reads_named names name read ≡ true → left ≡ 0
    → option_or (slice_get (filter (reads_named names name) reads) left) (option_or fault (find is_fault reads)) ≡ whole → Some read ≡ whole
taken names name reads more read left fault whole is named none inv = rw (is, named, none) at inv

pub passed : (names name : List ℕ) (reads more : List (Result Member Fault)) (read : Result Member Fault) (left : ℕ) (fault next : Option (Result Member Fault)) (whole : Option (Result Member Fault))
    → reads ≡ read ∷ more → reads_named names name read ≡ true → (left ≡ 0 → ⊥) → next ≡ option_or fault (if is_fault read then Some read else None)
    → option_or (slice_get (filter (reads_named names name) reads) left) (option_or fault (find is_fault reads)) ≡ whole
    → option_or (slice_get (filter (reads_named names name) more) (left - 1)) (option_or next (find is_fault more)) ≡ whole
passed names name reads more (Ok m) zero fault next whole is named some after inv = absurd (some refl)
passed names name reads more (Ok m) (suc left) None next whole is named some after inv =
    let same : left ≡ suc left - 1 = omega arith in
    rw after (subst (λ (n : ℕ). option_or (slice_get (filter (reads_named names name) more) n) (find is_fault more) ≡ whole) same (rw (is, named) at inv))
passed names name reads more (Ok m) (suc left) (Some f) next whole is named some after inv =
    let same : left ≡ suc left - 1 = omega arith in
    rw after (subst (λ (n : ℕ). option_or (slice_get (filter (reads_named names name) more) n) (Some f) ≡ whole) same (rw (is, named) at inv))
passed names name reads more (Err f) left fault next whole is named some after inv = absurd cc

pub skipped : (names name : List ℕ) (reads more : List (Result Member Fault)) (read : Result Member Fault) (left : ℕ) (fault next : Option (Result Member Fault)) (whole : Option (Result Member Fault))
    → reads ≡ read ∷ more → reads_named names name read ≡ false → next ≡ option_or fault (if is_fault read then Some read else None)
    → option_or (slice_get (filter (reads_named names name) reads) left) (option_or fault (find is_fault reads)) ≡ whole
    → option_or (slice_get (filter (reads_named names name) more) left) (option_or next (find is_fault more)) ≡ whole
skipped names name reads more (Ok m) left None next whole is other after inv = rw after (rw (is, other) at inv)
skipped names name reads more (Ok m) left (Some f) next whole is other after inv = rw after (rw (is, other) at inv)
skipped names name reads more (Err f) left None next whole is other after inv = rw after (rw is at inv)
skipped names name reads more (Err f) left (Some g) next whole is other after inv = rw after (rw is at inv)
