-- Writes in sequence, compared with all of them at once.
use Rattle.std.proofs.Common.{◌≡◌, ℕ, ◌+◌, ◌-◌, ◌<◌, ◌≤◌, ◌⊎◌, Bool, true, false, cond, List, [], ◌∷◌, length, Option, Some, None, refl, sym, ap, ◌∙◌, inl, inr, arith, subst}
use Rattle.std.specs.Prelude.{map, find, pos, ◌-ℤ◌}
use Rattle.std.proofs.lemmas.Bool.{cases_lt}
use Rattle.std.proofs.lemmas.List.FromFn.{fill_by_all}
use Rattle.pe_view.specs.Number.{num, byte_of, digit, is_in}
use Rattle.pe_head.specs.declared.headers.Headers.{Headers}
use Rattle.pe_layout.specs.Image.{LaidOut, number_at}
use Rattle.pe_tables.specs.Fixups.{width_of}
use Rattle.pe_tables.specs.declared.fixups.Fixup.{Fixup}
use Rattle.pe_tables.specs.Patch.{bytes, shifted_at}
use Rattle.pe_tables.specs.Patched.{length-patch, length-bytes_from, written_in, written_out}
use Rattle.pe_tables.specs.Relocated.{shift}
use Rattle.pe_write.proofs.Writes.{Write, covers, byte_by, byte_with, with_writes}
use Rattle.pe_write.specs.Rebase.{place_of}
use Rattle.pe_write.proofs.Writes.{field_write}
use Rattle.pe_write.specs.Rebase.{put, moved_all}
use Rattle.pe_write.proofs.Lists.{Each, each_map, find_none, in_range, range_parts, above_range, below_range}
use Rattle.pe_write.proofs.Bytes.{same_num}

-- each pair, in order
abbrev pub EachPair : {X : Type 0} → (X → X → Type 0) → List X → Type 0
EachPair R [] = Unit {0}
EachPair R (x ∷ xs) = Each (R x) xs × EachPair R xs

-- two writes are disjoint
abbrev pub AreClear : Write → Write → Type 0
AreClear v w = (v.offset + v.width ≤ w.offset) ⊎ (w.offset + w.width ≤ v.offset)

abbrev pub puts : List Write → List ℕ → List ℕ
puts [] xs = xs
puts (w ∷ ws) xs = puts ws (put xs w.offset w.width w.value)

abbrev pub Inside : ℕ → Write → Type 0
Inside n w = w.offset + w.width ≤ n

pub length-put : (xs : List ℕ) (at w v : ℕ) → at + w ≤ length xs → length (put xs at w v) ≡ length xs
length-put xs at w v le = length-patch xs at (bytes w v) (let e = length-bytes_from 0 w v in omega arith)

-- a byte of the write
put_in : (xs : List ℕ) (at w v o : ℕ) → at + w ≤ length xs → is_in at w o ≡ true → byte_of (put xs at w v) o ≡ digit v (o - at)
put_in xs at w v o le is = let p = range_parts at w o is in written_in xs at w v o le p.0 p.1

-- a byte outside the write
pub put_beside : (xs : List ℕ) (at w v o : ℕ) → at + w ≤ length xs → (o < at) ⊎ (at + w ≤ o) → byte_of (put xs at w v) o ≡ byte_of xs o
put_beside xs at w v o le out = written_out xs at w v o le out

pub put_out : (xs : List ℕ) (at w v o : ℕ) → at + w ≤ length xs → is_in at w o ≡ false → byte_of (put xs at w v) o ≡ byte_of xs o
put_out xs at w v o le is = elim (cases_lt o at) [
  | inl low ↦ put_beside xs at w v o le (inl low)
  | inr from ↦ elim (cases_lt o (at + w)) [
    | inl inside ↦ (let yes = in_range at w o from inside in absurd cc)
    | inr past ↦ put_beside xs at w v o le (inr past)
  ]
]

pub not_covered : (o : ℕ) (v : Write) → covers o v ≡ true → (w : Write) → AreClear v w → covers o w ≡ false
not_covered o v is w (inl below) = let p = range_parts v.offset v.width o is in below_range w.offset w.width o (let a = p.1 in omega arith)
not_covered o v is w (inr above) = let p = range_parts v.offset v.width o is in above_range w.offset w.width o (let a = p.0 in omega arith)

by_rest : (xs : List ℕ) (w : Write) (o : ℕ) (rest : Option Write) → w.offset + w.width ≤ length xs → (b : Bool) → covers o w ≡ b → (b ≡ true → rest ≡ None)
    → byte_by (put xs w.offset w.width w.value) o rest ≡ byte_by xs o (cond b (Some w) rest)
by_rest xs w o None le true is none = put_in xs w.offset w.width w.value o le is
by_rest xs w o (Some v) le true is none = let e = none refl in absurd cc
by_rest xs w o None le false is none = put_out xs w.offset w.width w.value o le is
by_rest xs w o (Some v) le false is none = refl

-- disjoint writes, byte by byte
pub puts_byte : (ws : List Write) (xs : List ℕ) (o : ℕ) → Each (Inside (length xs)) ws → EachPair AreClear ws → byte_of (puts ws xs) o ≡ byte_with ws xs o
puts_byte [] xs o inside apart = refl
puts_byte (w ∷ ws) xs o inside apart =
    let xs' : List ℕ = put xs w.offset w.width w.value in
    let len : length xs' ≡ length xs = length-put xs w.offset w.width w.value inside.0 in
    let Within : ℕ → Type 0 = λ n. Each (Inside n) ws in
    puts_byte ws xs' o (subst Within (sym len) inside.1) apart.1
    ∙ by_rest xs w o (find (covers o) ws) inside.0 (covers o w) refl (λ is. find_none (covers o) ws (each_map (AreClear w) (λ v. covers o v ≡ false) ws (λ v c. not_covered o w is v c) apart.0))

pub length-puts : (ws : List Write) (xs : List ℕ) → Each (Inside (length xs)) ws → length (puts ws xs) ≡ length xs
length-puts [] xs inside = refl
length-puts (w ∷ ws) xs inside =
    let xs' : List ℕ = put xs w.offset w.width w.value in
    let len : length xs' ≡ length xs = length-put xs w.offset w.width w.value inside.0 in
    let Within : ℕ → Type 0 = λ n. Each (Inside n) ws in
    length-puts ws xs' (subst Within (sym len) inside.1) ∙ len

pub puts_all : (ws : List Write) (xs : List ℕ) → Each (Inside (length xs)) ws → EachPair AreClear ws → puts ws xs ≡ with_writes ws xs
puts_all ws xs inside apart = fill_by_all (byte_with ws xs) (puts ws xs) (length xs) 0 (length-puts ws xs inside) (λ k lt. puts_byte ws xs k inside apart)

-- ---- fields in sequence
module _ (h : Headers) (i : LaidOut) (base : ℕ) where
  -- the bytes of the field are the same in the file and in the image
  abbrev pub Reads : List ℕ → Fixup → Type 0
  Reads xs f = num (byte_of xs) (place_of h f) (width_of f.kind) ≡ number_at (width_of f.kind) i f.field

  reads_still : (xs : List ℕ) (w : Write) (f : Fixup) → w.offset + w.width ≤ length xs → AreClear w (field_write h i base f) → Reads xs f → Reads (put xs w.offset w.width w.value) f
  reads_still xs w f le clear reads =
      same_num (byte_of (put xs w.offset w.width w.value)) (byte_of xs) (place_of h f) (place_of h f) (width_of f.kind)
      (λ k lt. put_beside xs w.offset w.width w.value (place_of h f + k) le (beside k lt clear))
      ∙ reads
    where
      beside : (k : ℕ) → k < width_of f.kind → AreClear w (field_write h i base f) → (place_of h f + k < w.offset) ⊎ (w.offset + w.width ≤ place_of h f + k)
      beside k lt (inl below) = inr (omega arith)
      beside k lt (inr above) = inl (omega arith)

  all_still : (xs : List ℕ) (w : Write) (fs : List Fixup) → w.offset + w.width ≤ length xs → Each (AreClear w) (map (field_write h i base) fs) → Each (Reads xs) fs → Each (Reads (put xs w.offset w.width w.value)) fs
  all_still xs w [] le clear reads = tt
  all_still xs w (f ∷ fs) le clear reads = (reads_still xs w f le clear.0 reads.0, all_still xs w fs le clear.1 reads.1)

  pub moved_puts : (fs : List Fixup) (xs : List ℕ) → Each (Inside (length xs)) (map (field_write h i base) fs) → EachPair AreClear (map (field_write h i base) fs) → Each (Reads xs) fs
      → moved_all h (pos base -ℤ pos i.image_base) fs xs ≡ puts (map (field_write h i base) fs) xs
  unfolding shifted_at
  moved_puts [] xs inside clear reads = refl
  moved_puts (f ∷ fs) xs inside clear reads =
      let w : Write = field_write h i base f in
      let xs' : List ℕ = put xs w.offset w.width w.value in
      let here : shifted_at (pos base -ℤ pos i.image_base) f.kind (place_of h f) xs ≡ xs' = ap (λ (v : ℕ). put xs (place_of h f) (width_of f.kind) (shift f.kind v (pos base -ℤ pos i.image_base))) reads.0 in
      let len : length xs' ≡ length xs = length-put xs w.offset w.width w.value inside.0 in
      let Within : ℕ → Type 0 = λ n. Each (Inside n) (map (field_write h i base) fs) in
      ap (moved_all h (pos base -ℤ pos i.image_base) fs) here
      ∙ moved_puts fs xs' (subst Within (sym len) inside.1) clear.1 (all_still xs w fs inside.0 clear.0 reads.1)
