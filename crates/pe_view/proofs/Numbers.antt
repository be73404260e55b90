-- Numbers in bytes: equal to byteorder's, and by their digits.
use Rattle.std.proofs.Common.{◌≡◌, ℕ, zero, suc, ◌+◌, ◌*◌, ◌/◌, ◌%◌, ◌^◌, ◌<◌, List, drop, refl, sym, ap, ◌∙◌, arith}
use Rattle.std.specs.Prelude.{slice_index}
use Rattle.std.proofs.Math.Nat.{div-div-eq-div-mul, pow-succ'}
use Rattle.std.proofs.lemmas.List.{get_or-drop}
use Rattle.byteorder.specs.Endian.{little_from, little_number}
use Rattle.pe_view.specs.Number.{num, byte_of, digit}

little_from-drop : (file : List ℕ) (offset i width : ℕ) → num (byte_of file) (offset + i) width ≡ little_from i width (drop offset file)
little_from-drop file offset i zero = refl
little_from-drop file offset i (suc width) =
    let here : slice_index (drop offset file) i ≡ slice_index file (offset + i) = get_or-drop offset file i 0 in
    let next : offset + i + 1 ≡ offset + suc i = omega arith in
    let rest : num (byte_of file) (offset + i + 1) width ≡ little_from (suc i) width (drop offset file) = rw next (little_from-drop file offset (suc i) width) in
    rw (here, rest) refl

-- a number of a file is byteorder's
pub num-little : (file : List ℕ) (offset width : ℕ) → num (byte_of file) offset width ≡ little_number width (drop offset file)
num-little file offset width = ap (λ (o : ℕ). num (byte_of file) o width) (let e : offset ≡ offset + 0 = omega arith in e) ∙ little_from-drop file offset 0 width

low_byte : (b rest : ℕ) → b < 256 → (b + 256 * rest) / 256 ≡ rest
low_byte b rest small = omega arith

-- the digits of a number are its bytes
pub digit-num : (byte : ℕ → ℕ) (place width k : ℕ) → ((i : ℕ) → byte i < 256) → k < width → digit (num byte place width) k ≡ byte (place + k)
digit-num byte place zero k small lt = absurd (omega arith)
digit-num byte place (suc width) zero small lt =
    let b : byte place < 256 = small place in
    let e : place + 0 ≡ place = omega arith in
    rw e (omega arith)
digit-num byte place (suc width) (suc k) small lt =
    let rest : ℕ = num byte (place + 1) width in
    let front : (byte place + 256 * rest) / 256 ≡ rest = low_byte (byte place) rest (small place) in
    let whole : (byte place + 256 * rest) / 256 ^ suc k ≡ rest / 256 ^ k =
    ap (λ (d : ℕ). (byte place + 256 * rest) / d) (pow-succ' 256 k) ∙ sym (div-div-eq-div-mul (byte place + 256 * rest) 256 (256 ^ k)) ∙ ap (λ (n : ℕ). n / 256 ^ k) front in
    let e : place + 1 + k ≡ place + suc k = omega arith in
    ap (λ (n : ℕ). n % 256) whole ∙ digit-num byte (place + 1) width k small (omega arith) ∙ ap byte e
