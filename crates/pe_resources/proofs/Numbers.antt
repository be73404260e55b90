-- A number in the bytes from an RVA on is the image's.
use Rattle.std.proofs.Common.{◌≡◌, ◌∙◌, refl, ℕ, zero, suc, ◌+◌, ◌-◌, ◌*◌, ◌<◌, ◌≤◌, List, get_or, ap, arith}
use Rattle.std.specs.Prelude.{map, take, drop}
use Rattle.std.specs.List.{range_with_len}
use Rattle.std.proofs.lemmas.List.FromFn.{get_or-map-range_with_len, take-map-range_with_len}
use Rattle.std.specs.Simd.{first_chunks}
use Rattle.pe_view.specs.Number.{num, byte_of}
use Rattle.pe_layout.specs.Image.{LaidOut, bytes_at, number_at}
use Rattle.pe_resources.specs.Entry.{entry_in}
use Rattle.pe_resources.specs.Section.{entry_at}

byte_at : (f : ℕ → ℕ) (start len k : ℕ) → k + 1 ≤ len → byte_of (map f (range_with_len start len)) k ≡ f (start + k)
byte_at f start len k le = get_or-map-range_with_len f start len k (start + k) 0 (omega arith) refl

pub num_at : (f : ℕ → ℕ) (start len k width : ℕ) → k + width ≤ len → num (byte_of (map f (range_with_len start len))) k width ≡ num f (start + k) width
num_at f start len k zero le = refl
num_at f start len k (suc width) le =
    let next : start + (k + 1) ≡ start + k + 1 = omega arith in
    ap (λ (b : ℕ). b + 256 * num (byte_of (map f (range_with_len start len))) (k + 1) width) (byte_at f start len k (omega (arith, le)))
    ∙ ap (λ (n : ℕ). f (start + k) + 256 * n) (num_at f start len (k + 1) width (omega (arith, le)) ∙ ap (λ (p : ℕ). num f p width) next)

-- Some bytes of those from an RVA on are the image's.
pub part_at : {X : Type 0} (f : ℕ → X) (start len k size : ℕ) → k + size ≤ len → take size (drop k (map f (range_with_len start len))) ≡ map f (range_with_len (start + k) size)
part_at f start len zero size le = take-map-range_with_len f start len size (omega (arith, le)) ∙ ap (λ (a : ℕ). map f (range_with_len a size)) (omega arith)
part_at f start zero (suc k) size le = absurd (omega (arith, le))
part_at f start (suc len) (suc k) size le = part_at f (start + 1) len k size (omega (arith, le)) ∙ ap (λ (a : ℕ). map f (range_with_len a size)) (omega arith)

drop_at : {X : Type 0} (f : ℕ → X) (start len k : ℕ) → k ≤ len → drop k (map f (range_with_len start len)) ≡ map f (range_with_len (start + k) (len - k))
drop_at f start len zero le =
    let same : start ≡ start + 0 = omega arith in
    let all : len ≡ len - 0 = omega arith in
    ap (λ (a : ℕ). map f (range_with_len a len)) same ∙ ap (λ (n : ℕ). map f (range_with_len (start + 0) n)) all
drop_at f start zero (suc k) le = absurd (omega (arith, le))
drop_at f start (suc len) (suc k) le =
    let next : start + 1 + k ≡ start + suc k = omega arith in
    let left : len - k ≡ suc len - suc k = omega arith in
    drop_at f (start + 1) len k (omega (arith, le)) ∙ ap (λ (a : ℕ). map f (range_with_len a (len - k))) next ∙ ap (λ (n : ℕ). map f (range_with_len (start + suc k) n)) left

-- A number in bytes that stand from an RVA on is the image's.
pub number_in : (i : LaidOut) (start offset len k width : ℕ) (row : List ℕ) → row ≡ bytes_at i (start + offset) len → k + width ≤ len → num (byte_of row) k width ≡ number_at width i (start + (offset + k))
number_in i start offset len k width row is le =
    let at : start + offset + k ≡ start + (offset + k) = omega arith in
    ap (λ (bytes : List ℕ). num (byte_of bytes) k width) is ∙ num_at i.byte (start + offset) len k width le ∙ ap (λ (p : ℕ). num i.byte p width) at

-- Chunk k of 8 bytes each is the image's.
pub chunk_at : (f : ℕ → ℕ) (start len count k : ℕ) (d : List ℕ) → 8 * count ≤ len → k < count → get_or (first_chunks 8 count (map f (range_with_len start len))) k d ≡ map f (range_with_len (start + 8 * k) 8)
chunk_at f start len zero k d le lt = absurd (omega (arith, lt))
chunk_at f start len (suc count) zero d le lt = take-map-range_with_len f start len 8 (omega (arith, le)) ∙ ap (λ (a : ℕ). map f (range_with_len a 8)) (omega arith)
chunk_at f start len (suc count) (suc k) d le lt =
    ap (λ (xs : List ℕ). get_or (first_chunks 8 count xs) k d) (drop_at f start len 8 (omega (arith, le)))
    ∙ chunk_at f (start + 8) (len - 8) count k d (omega (arith, le)) (omega (arith, lt))
    ∙ ap (λ (a : ℕ). map f (range_with_len a 8)) (omega arith)

-- An entry whose bytes are the image's is the image's.
pub entry_here : (i : LaidOut) (start offset k : ℕ) (row : List ℕ) → row ≡ bytes_at i (start + (offset + 16) + 8 * k) 8 → entry_in row ≡ entry_at i start offset k
entry_here i start offset k row is =
    let at : start + (offset + 16) + 8 * k ≡ start + (offset + 16 + 8 * k) = omega arith in
    let here = is ∙ ap (λ (a : ℕ). bytes_at i a 8) at in
    let name_at : start + (offset + 16 + 8 * k + 0) ≡ start + (offset + 16 + 8 * k) = omega arith in
    let name = number_in i start (offset + 16 + 8 * k) 8 0 4 row here (omega arith) ∙ ap (λ (p : ℕ). number_at 4 i p) name_at in
    let target = number_in i start (offset + 16 + 8 * k) 8 4 4 row here (omega arith) in
    ap (λ (n : ℕ). record { name = n; target = num (byte_of row) 4 4 }) name ∙ ap (λ (n : ℕ). record { name = number_at 4 i (start + (offset + 16 + 8 * k)); target = n }) target
