-- Bytes of strings that stand for themselves.
use Rattle.std.proofs.Common.{◌≡◌, ◌<◌, ◌≤◌, ◌++◌, codes, sym, ◌∙◌, ◌/◌, ◌%◌, ℕ, true, false, List, [], ◌∷◌, refl, arith}
use Rattle.std.specs.List.{list_all}
use Rattle.std.specs.Prelude.{nat_lt}
use Rattle.std.specs.Char.{digit_char}
use Rattle.std.proofs.lemmas.Grind.{common_steps}
use Rattle.json.specs.Print.{escape, escape_byte, escape_letter}
use Rattle.pe_text.specs.Text.{hex}
use Rattle.pe_json.specs.Strings.{is_plain}

pub itself : (byte : ℕ) → is_plain byte ≡ true → escape_byte byte ≡ byte ∷ []
unfolding escape_byte
itself byte plain = grind (arith, common_steps)

pub plain_string : (bytes : List ℕ) → list_all is_plain bytes ≡ true → escape bytes ≡ bytes
plain_string [] plain = refl
plain_string (byte ∷ bytes) plain = grind (arith, common_steps, itself, plain_string bytes)

pub two_digits : (n : ℕ) → n < 32 → hex 2 n ≡ digit_char (n / 16) ∷ digit_char (n % 16) ∷ []
unfolding hex
two_digits n small = grind (arith, common_steps)

control_by : (byte : ℕ) → nat_lt 0 (escape_letter byte) ≡ false → nat_lt byte 32 ≡ true → hex 2 byte ≡ digit_char (byte / 16) ∷ digit_char (byte % 16) ∷ [] → escape_byte byte ≡ codes "\\u00" ++ hex 2 byte
unfolding escape_byte
control_by byte none small digits = rw (none, small, digits) refl

-- a control character without a short escape
pub control : (byte letter : ℕ) → letter ≡ escape_letter byte → letter ≤ 0 → byte < 32 → escape_byte byte ≡ codes "\\u00" ++ hex 2 byte
control byte letter is none small =
    let zero_letter : escape_letter byte ≡ 0 = sym is ∙ omega arith in
    control_by byte (rw zero_letter refl) (grind arith) (two_digits byte small)
