-- A file with writes, byte by byte.
use Rattle.std.proofs.Common.{◌≡◌, ℕ, zero, suc, ◌+◌, ◌-◌, ◌<◌, List, length, Some, None, refl, sym, ap, ◌∙◌, inl, inr, arith}
use Rattle.std.specs.Prelude.{find}
use Rattle.std.proofs.lemmas.Bool.{cases_lt}
use Rattle.std.proofs.lemmas.List.{get_or_past}
use Rattle.std.proofs.lemmas.List.FromFn.{length-map-range_with_len, get_or-map-range_with_len}
use Rattle.pe_view.specs.Number.{byte_of, digit, num}
use Rattle.pe_write.proofs.Writes.{Write, covers, byte_by, byte_with, with_writes}

pub length-writes : (ws : List Write) (file : List ℕ) → length (with_writes ws file) ≡ length file
length-writes ws file = length-map-range_with_len (byte_with ws file) 0 (length file)

pub byte-writes : (ws : List Write) (file : List ℕ) (o : ℕ) → o < length file → byte_of (with_writes ws file) o ≡ byte_with ws file o
byte-writes ws file o lt = get_or-map-range_with_len (byte_with ws file) 0 (length file) o o 0 lt (omega arith)

-- an offset that no write covers
pub byte_kept : (ws : List Write) (file : List ℕ) (o : ℕ) → find (covers o) ws ≡ None → byte_of (with_writes ws file) o ≡ byte_of file o
byte_kept ws file o none = elim (cases_lt o (length file)) [
  | inl inside ↦ byte-writes ws file o inside ∙ ap (byte_by file o) none
  | inr past ↦ get_or_past (with_writes ws file) o 0 (let e = length-writes ws file in omega arith) ∙ sym (get_or_past file o 0 past)
]

-- an offset that a write covers
pub byte_written : (ws : List Write) (file : List ℕ) (o : ℕ) (w : Write) → o < length file → find (covers o) ws ≡ Some w → byte_of (with_writes ws file) o ≡ digit w.value (o - w.offset)
byte_written ws file o w lt some = byte-writes ws file o lt ∙ ap (byte_by file o) some

-- numbers of equal bytes
pub same_num : (f g : ℕ → ℕ) (a b w : ℕ) → ((k : ℕ) → k < w → f (a + k) ≡ g (b + k)) → num f a w ≡ num g b w
same_num f g a b zero same = refl
same_num f g a b (suc w) same =
    let first : f a ≡ g b = ap f (omega arith) ∙ same 0 (omega arith) ∙ ap g (omega arith) in
    let rest : num f (a + 1) w ≡ num g (b + 1) w = same_num f g (a + 1) (b + 1) w (λ k lt. ap f (omega arith) ∙ same (suc k) (omega arith) ∙ ap g (omega arith)) in
    rw (first, rest) refl
