-- A file without a fault in its headers is tested as an image.
use Rattle.std.proofs.Common.{◌≡◌, ℕ, Bool, true, false, List, ◌∷◌, ◌++◌, [], length, Option, None, Some, refl, sym, ◌+◌, ◌*◌, ◌∙◌, ap, ap₂, arith}
use Rattle.std.specs.Prelude.{◌&&◌, ◌==◌, not, codes, nat_le, if◌then◌else◌}
use Rattle.std.specs.Option.{option_or}
use Rattle.std.proofs.lemmas.Bool.{true≢false, eqb-true, ne_eqb}
use Rattle.pe_view.specs.Faults.{first_standing}
use Rattle.pe_view.specs.FirstStanding.{first-append, none_stands}
use Rattle.pe_view.specs.Number.{num, byte_of}
use Rattle.pe_head.specs.Head.{head_of}
use Rattle.pe_head.specs.HeaderFaults.{head_tests}
use Rattle.pe_layout.specs.Image.{image_of_file}
use Rattle.pe_layout.specs.SectionFaults.{layout_tests, placing_tests}
use Rattle.pe_image.specs.ImageTests.{table_tests, image_tests}
use Rattle.coff_read.specs.EitherObject.{form_in}
use Rattle.coff_read.specs.FormFaults.{object_tests}
use Rattle.pe_text.specs.declared.file_beginning.FileKind.{FileKind}
use Rattle.pe_text.specs.declared.file_beginning.FileKind.TheVariants.{Image, Elf, Archive, ThinArchive, Text, Object, ImportObject, BigObject}
use Rattle.pe_text.specs.FileKind.{begins_with, is_text, is_machine, begins_object, begins_import, begins_big_object, object_kind, kind_of, is_object}
use Rattle.pe_json.specs.JsonReport.{file_tests}

chosen : (a b c d e : Bool) (kind : Option FileKind) → is_object kind ≡ false
    → is_object (if a then Some Image else (if b then Some Elf else (if c then Some Archive else (if d then Some ThinArchive else (if e then Some Text else kind))))) ≡ false
chosen true b c d e kind other = refl
chosen false true c d e kind other = refl
chosen false false true d e kind other = refl
chosen false false false true e kind other = refl
chosen false false false false true kind other = refl
chosen false false false false false kind other = other

last : (a b c : Bool) → a ≡ false → c ≡ false → is_object (if a then Some Object else (if b then Some ImportObject else (if c then Some BigObject else None))) ≡ false
last true b c e f = absurd (true≢false e)
last false true c e f = refl
last false false true e f = absurd (true≢false f)
last false false false e f = refl

and_false : (a b : Bool) → b ≡ false → (a && b) ≡ false
and_false true b e = e
and_false false b e = refl

-- a file that begins with the number of `MZ` does not begin as a big object does
no_big : (file : List ℕ) → num (byte_of file) 0 2 ≡ 0x5a4d → begins_big_object file ≡ false
no_big file mark =
    let more = num (byte_of file) 2 2 in
    let whole : num (byte_of file) 0 4 ≡ num (byte_of file) 0 2 + 65536 * more = omega arith in
    and_false (nat_le 28 (length file)) _ (rw (ne_eqb (num (byte_of file) 0 4) 0xffff0000 (λ is. absurd (omega (arith, is, whole, mark)))) refl)

-- a file that begins with the number of `MZ` is no object
not_object : (file : List ℕ) → num (byte_of file) 0 2 ≡ 0x5a4d → is_object (kind_of file) ≡ false
not_object file mark =
    chosen (begins_with file (codes "MZ")) (begins_with file (127 ∷ codes "ELF")) (begins_with file (codes "!<arch>" ++ 10 ∷ [])) (begins_with file (codes "!<thin>" ++ 10 ∷ [])) (is_text file) (object_kind file)
    (last (begins_object file) (begins_import file) (begins_big_object file) (and_false (nat_le 2 (length file)) (is_machine (num (byte_of file) 0 2)) (ap is_machine mark)) (no_big file mark))

not_false : (b : Bool) → not b ≡ false → b ≡ true
not_false true e = refl
not_false false e = absurd (true≢false e)

first_none : {A : Type 0} (x y : Option A) → option_or x y ≡ None → x ≡ None
first_none None y e = refl
first_none (Some a) y e = e

-- the headers' faults are the first that count
pub head_none : (file : List ℕ) → first_standing (layout_tests 0 file) ≡ None → first_standing (head_tests 0 file) ≡ None
head_none file none =
    first_none (first_standing (head_tests 0 file)) (first_standing (placing_tests 0 (head_of file) (length file)))
    (sym (first-append (head_tests 0 file) (placing_tests 0 (head_of file) (length file))) ∙ none)

mark_of : (file : List ℕ) → first_standing (head_tests 0 file) ≡ None → num (byte_of file) 0 2 ≡ 0x5a4d
unfolding head_tests
mark_of file none = eqb-true _ _ (not_false (num (byte_of file) 0 2 == 0x5a4d) (none_stands (head_tests 0 file) 2 _ none refl))

-- so it is no object
pub no_object : (file : List ℕ) → first_standing (layout_tests 0 file) ≡ None → is_object (kind_of file) ≡ false
no_object file sound = not_object file (mark_of file (head_none file sound))

-- and has no fault if its image has none
pub no_fault : (file : List ℕ) → first_standing (layout_tests 0 file) ≡ None → first_standing (table_tests (image_of_file 0 file)) ≡ None → first_standing (file_tests file) ≡ None
unfolding image_tests
no_fault file sound tables =
    ap (λ (b : Bool). first_standing (if b then object_tests (form_in file) file else image_tests 0 file)) (no_object file sound)
    ∙ first-append (layout_tests 0 file) (table_tests (image_of_file 0 file)) ∙ ap₂ option_or sound tables
