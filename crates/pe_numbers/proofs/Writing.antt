-- A number written into the room after those before it.
use Rattle.std.proofs.Common.{◌≡◌, ℕ, suc, ◌+◌, ◌-◌, ◌<◌, ◌≤◌, List, ◌++◌, length, take, drop, get_or, sym, ap, subst, ◌∙◌, append_assoc, arith, length-append}
use Rattle.std.specs.List.{AllByRecursion}
use borrow.Rule.Slice.PartMut.{put_mid, post_of}
use Rattle.std.proofs.Math.Seq.{drop-cons}
use Rattle.std.proofs.lemmas.List.{take_at, length-take-le}
use Rattle.pe_numbers.specs.declared.number.Number.{Number}
use Rattle.pe_numbers.specs.Numbers.{width_of, NumberFits, number_bytes, numbers_bytes, numbers_size}
use Rattle.pe_numbers.specs.ReadBack.{length-number}

pub left_next : (ns : List Number) (i : ℕ) (n : Number) → i < length ns → numbers_size (drop i ns) ≡ width_of (get_or ns i n) + numbers_size (drop (i + 1) ns)
left_next ns i n lt = ap numbers_size (drop-cons ns i n lt) ∙ ap (λ (k : ℕ). width_of (get_or ns i n) + numbers_size (drop k ns)) (let e : suc i ≡ i + 1 = omega arith in e)

pub bytes_next : (ns : List Number) (i : ℕ) (n : Number) → i < length ns → numbers_bytes (drop i ns) ≡ number_bytes (get_or ns i n) ++ numbers_bytes (drop (i + 1) ns)
bytes_next ns i n lt = ap numbers_bytes (drop-cons ns i n lt) ∙ ap (λ (k : ℕ). number_bytes (get_or ns i n) ++ numbers_bytes (drop k ns)) (let e : suc i ≡ i + 1 = omega arith in e)

pub fits_next : (ns : List Number) (i : ℕ) (n : Number) → i < length ns → NumberFits (get_or ns i n) → AllByRecursion NumberFits (drop (i + 1) ns) → AllByRecursion NumberFits (drop i ns)
fits_next ns i n lt here later =
    let next : suc i ≡ i + 1 = omega arith in
    subst (AllByRecursion NumberFits) (sym (drop-cons ns i n lt)) (here, subst (λ (k : ℕ). AllByRecursion NumberFits (drop k ns)) (sym next) later)

pub written_next : (ns : List Number) (i : ℕ) (n : Number) (room new behind : List ℕ) (start w : ℕ) → i < length ns → start ≤ length room → w ≡ width_of (get_or ns i n)
    → new ≡ number_bytes (get_or ns i n) ++ behind
    → take (start + w) (put_mid start (length room - start) room new) ++ numbers_bytes (drop (i + 1) ns) ≡ take start room ++ numbers_bytes (drop i ns)
written_next ns i n room new behind start w lt inside width is =
    let number : List ℕ = number_bytes (get_or ns i n) in
    let front : List ℕ = take start room ++ number in
    let past : List ℕ = post_of start (length room - start) room in
    let size : length front ≡ start + w = omega (arith, width, length-number (get_or ns i n), length-append (take start room) number, length-take-le start room inside) in
    let whole : put_mid start (length room - start) room new ≡ front ++ (behind ++ past) =
    ap (λ (bs : List ℕ). take start room ++ (bs ++ past)) is ∙ ap (λ (bs : List ℕ). take start room ++ bs) (append_assoc number behind past) ∙ sym (append_assoc (take start room) number (behind ++ past)) in
    ap (λ (bs : List ℕ). take (start + w) bs ++ numbers_bytes (drop (i + 1) ns)) whole
    ∙ ap (λ (bs : List ℕ). bs ++ numbers_bytes (drop (i + 1) ns)) (take_at front (behind ++ past) (start + w) size)
    ∙ append_assoc (take start room) number (numbers_bytes (drop (i + 1) ns))
    ∙ ap (λ (bs : List ℕ). take start room ++ bs) (sym (bytes_next ns i n lt))
