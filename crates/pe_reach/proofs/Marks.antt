-- A file is checked as an object by its first bytes.
use Rattle.std.proofs.Common.{◌≡◌, ℕ, ◌+◌, ◌*◌, ◌≤◌, Bool, true, false, List, [], ◌∷◌, ◌++◌, length, take, refl, sym, ◌∙◌, ap, arith, inl, inr}
use Rattle.std.specs.Prelude.{◌==◌, ◌&&◌, ◌||◌, nat_le, nat_lt, codes, Some, None, if◌then◌else◌}
use Rattle.std.specs.List.{list_all}
use Rattle.std.proofs.lemmas.Bool.{and_parts, and_right, or_cases, ne_eqb, eqb-true, leb-true, le-leb}
use Rattle.pe_view.specs.Number.{num, byte_of}
use Rattle.pe_text.specs.declared.file_beginning.FileKind.TheVariants.{Image, Elf, Archive, ThinArchive, Text, Object, ImportObject, BigObject}
use Rattle.pe_text.specs.FileKind.{begins_with, is_text_byte, is_text, is_machine, begins_object, begins_import, begins_big_object, kind_of, is_object}

-- a number between 2,304 and 32,382 is that of no machine
no_machine : (n : ℕ) → 2304 ≤ n → n ≤ 32382 → is_machine n ≡ false
no_machine n low high =
    rw (
      ne_eqb n 0x14c (λ is. absurd (omega (arith, is, low))),
      ne_eqb n 0x8664 (λ is. absurd (omega (arith, is, high))),
      ne_eqb n 0xaa64 (λ is. absurd (omega (arith, is, high))),
      ne_eqb n 0x1c0 (λ is. absurd (omega (arith, is, low))),
      ne_eqb n 0x1c4 (λ is. absurd (omega (arith, is, low))),
    ) refl

-- whether it is an object, where the marks of the other kinds come with no mark of an object
pick : (image elf archive thin text machine short big : Bool) → (image ≡ true → (machine || big) ≡ false) → (elf ≡ true → (machine || big) ≡ false) → (archive ≡ true → (machine || big) ≡ false)
    → (thin ≡ true → (machine || big) ≡ false) → (text ≡ true → (machine || big) ≡ false) → (short ≡ true → big ≡ false)
    → is_object (if image then Some Image
    else (if elf then Some Elf
    else (if archive then Some Archive
    else (if thin then Some ThinArchive
    else (if text then Some Text
    else (if machine then Some Object
    else (if short then Some ImportObject
    else (if big then Some BigObject
    else None)))))))) ≡ (machine || big)
pick true elf archive thin text machine short big i e a t x s = sym (i refl)
pick false true archive thin text machine short big i e a t x s = sym (e refl)
pick false false true thin text machine short big i e a t x s = sym (a refl)
pick false false false true text machine short big i e a t x s = sym (t refl)
pick false false false false true machine short big i e a t x s = sym (x refl)
pick false false false false false true short big i e a t x s = refl
pick false false false false false false true big i e a t x s = sym (s refl)
pick false false false false false false false true i e a t x s = refl
pick false false false false false false false false i e a t x s = refl

-- a text byte
text_byte : (a : ℕ) → is_text_byte a ≡ true → (9 ≤ a) × (a ≤ 126)
text_byte a is =
    elim (or_cases (nat_le 0x20 a && nat_le a 0x7e) (a == 9 || (a == 10 || a == 13)) is) [
      | inl printable ↦
          let both = and_parts (nat_le 0x20 a) (nat_le a 0x7e) printable in
          (omega (arith, leb-true 0x20 a both.0), leb-true a 0x7e both.1)
      | inr other ↦ elim (or_cases (a == 9) (a == 10 || a == 13) other) [
        | inl tab ↦ let e = eqb-true a 9 tab in (omega (arith, e), omega (arith, e))
        | inr end ↦ elim (or_cases (a == 10) (a == 13) end) [
          | inl feed ↦ let e = eqb-true a 10 feed in (omega (arith, e), omega (arith, e))
          | inr return ↦ let e = eqb-true a 13 return in (omega (arith, e), omega (arith, e))
        ]
      ]
    ]

-- two bytes of a mark
mark : (a b x y : ℕ) (more : Bool) → (x == a && (y == b && more)) ≡ true → (a ≡ x) × (b ≡ y)
mark a b x y more is =
    let first = and_parts (x == a) (y == b && more) is in
    let second = and_parts (y == b) more first.1 in
    (sym (eqb-true x a first.0), sym (eqb-true y b second.0))

-- the first four bytes of a big object, and not its version
no_big : (file : List ℕ) → (num (byte_of file) 0 4 ≡ 0xffff0000 → ⊥) → begins_big_object file ≡ false
no_big file other = and_right (nat_le 28 (length file)) _ (rw (ne_eqb (num (byte_of file) 0 4) 0xffff0000 other) refl)

-- an import object has the version 0
no_version : (file : List ℕ) → num (byte_of file) 4 2 ≡ 0 → begins_big_object file ≡ false
no_version file zero_version =
    let none : nat_le 2 (num (byte_of file) 4 2) ≡ false = rw zero_version refl in
    and_right (nat_le 28 (length file)) _ (and_right (num (byte_of file) 0 4 == 0xffff0000) _ (rw none refl))

short_version : (file : List ℕ) → begins_import file ≡ true → num (byte_of file) 4 2 ≡ 0
short_version [] is = refl
short_version (a ∷ []) is = refl
short_version (a ∷ b ∷ []) is = refl
short_version (a ∷ b ∷ c ∷ []) is = refl
short_version (a ∷ b ∷ c ∷ d ∷ []) is = refl
short_version (a ∷ b ∷ c ∷ d ∷ e ∷ []) is =
    let one = and_parts (0 == a) _ is in
    let two = and_parts (0 == b) _ one.1 in
    let three = and_parts (255 == c) _ two.1 in
    let four = and_parts (255 == d) _ three.1 in
    let five = and_parts (0 == e) _ four.1 in
    rw (sym (eqb-true 0 e five.0)) refl
short_version (a ∷ b ∷ c ∷ d ∷ e ∷ f ∷ rest) is =
    let one = and_parts (0 == a) _ is in
    let two = and_parts (0 == b) _ one.1 in
    let three = and_parts (255 == c) _ two.1 in
    let four = and_parts (255 == d) _ three.1 in
    let five = and_parts (0 == e) _ four.1 in
    let six = and_parts (0 == f) _ five.1 in
    rw (sym (eqb-true 0 e five.0), sym (eqb-true 0 f six.0)) refl

object_of : (a b : ℕ) (rest : List ℕ) → is_object (kind_of (a ∷ b ∷ rest)) ≡ (begins_object (a ∷ b ∷ rest) || begins_big_object (a ∷ b ∷ rest))
object_of a b rest =
    let file = a ∷ b ∷ rest in
    let n = num (byte_of file) 0 2 in
    let more = num (byte_of file) 2 2 in
    let value : n ≡ a + 256 * b = omega arith in
    let whole : num (byte_of file) 0 4 ≡ n + 65536 * more = omega arith in
    let none : 2304 ≤ n → n ≤ 32382 → (begins_object file || begins_big_object file) ≡ false = λ low high.
    rw (and_right (nat_le 2 (length file)) (is_machine n) (no_machine n low high), no_big file (λ is. absurd (omega (arith, is, whole, low, high)))) refl in
    pick (begins_with file (codes "MZ")) (begins_with file (127 ∷ codes "ELF")) (begins_with file (codes "!<arch>" ++ 10 ∷ [])) (begins_with file (codes "!<thin>" ++ 10 ∷ [])) (is_text file)
    (begins_object file) (begins_import file) (begins_big_object file)
    (λ is. let m = mark a b 77 90 _ is in none (omega (arith, value, m.0, m.1)) (omega (arith, value, m.0, m.1)))
    (λ is. let m = mark a b 127 69 _ is in none (omega (arith, value, m.0, m.1)) (omega (arith, value, m.0, m.1)))
    (λ is. let m = mark a b 33 60 _ is in none (omega (arith, value, m.0, m.1)) (omega (arith, value, m.0, m.1)))
    (λ is. let m = mark a b 33 60 _ is in none (omega (arith, value, m.0, m.1)) (omega (arith, value, m.0, m.1)))
    (λ is.
    let all = and_parts (nat_lt 0 (length file)) (list_all is_text_byte (take 16 file)) is in
    let first = and_parts (is_text_byte a) (is_text_byte b && list_all is_text_byte (take 14 rest)) all.1 in
    let second = and_parts (is_text_byte b) (list_all is_text_byte (take 14 rest)) first.1 in
    let low = text_byte a first.0 in
    let high = text_byte b second.0 in
    none (omega (arith, value, low.0, high.0)) (omega (arith, value, low.1, high.1)))
    (λ is. no_version file (short_version file is))

-- a file is checked as an object exactly if its first two bytes are a machine's number, or its first bytes those of a big object
pub object_by_mark : (file : List ℕ) → 2 ≤ length file → is_object (kind_of file) ≡ (is_machine (num (byte_of file) 0 2) || begins_big_object file)
object_by_mark [] two = absurd (omega (arith, two))
object_by_mark (a ∷ []) two = absurd (omega (arith, two))
object_by_mark (a ∷ b ∷ rest) two =
    let file = a ∷ b ∷ rest in
    object_of a b rest ∙ ap (λ some. (some && is_machine (num (byte_of file) 0 2)) || begins_big_object file) (le-leb 2 (length file) two)
