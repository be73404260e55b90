-- Examples of names on a page.
use Rattle.std.proofs.Common.{◌≡◌, [], ◌∷◌, false, refl}
use lib.Utf8.{encode}
use Rattle.std.specs.Prelude.{codes}
use Rattle.std.specs.Str.{chars, is_utf8}
use Rattle.pe_text.specs.Text.{hex, escaped, quoted}
use Rattle.pe_page.specs.Name.{is_plain, whole_text, whole_columns, name_text, section_columns}

-- "é" in UTF-8 is one character, and its first byte alone is not UTF-8
e_acute : section_columns (0xc3 ∷ 0xa9 ∷ []) ≡ 1
unfolding section_columns whole_columns chars is_utf8 encode
e_acute = refl

half : name_text (0xc3 ∷ []) ≡ codes "\"\\xc3\""
unfolding name_text whole_text chars is_utf8 encode quoted escaped hex
half = refl

-- U+202E, which changes the direction of the text after it, is not shown as it is
turned : is_plain (0x61 ∷ 0xe2 ∷ 0x80 ∷ 0xae ∷ []) ≡ false
unfolding chars is_utf8 encode
turned = refl
