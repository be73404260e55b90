-- A file whose headers have no fault is not empty, nor too large.
use Rattle.std.proofs.Common.{◌≡◌, ℕ, ◌<◌, ◌≤◌, ◌^◌, List, length, None, Result, Ok, Err, refl, arith}
use Rattle.std.specs.Prelude.{OnErr}
use Rattle.std.proofs.lemmas.Bool.{ltb-false}
use Rattle.pe_view.specs.Faults.{first_standing}
use Rattle.pe_view.specs.FirstStanding.{none-append, none_stands}
use Rattle.pe_head.specs.Head.{head_of}
use Rattle.pe_head.specs.HeaderFaults.{head_tests}
use Rattle.pe_layout.specs.Image.{image_of_file}
use Rattle.pe_layout.specs.SectionFaults.{layout_tests, placing_tests}
use Rattle.pe_image.specs.ImageTests.{image_tests, table_tests}

pub head_has_bytes : (number : ℕ) (file : List ℕ) → first_standing (head_tests number file) ≡ None → 0 < length file
unfolding head_tests
head_has_bytes number file none =
    let enough : 64 ≤ length file = ltb-false _ _ (none_stands (head_tests number file) 1 _ none refl) in
    omega (arith, enough)

pub head_is_small : (number : ℕ) (file : List ℕ) → first_standing (head_tests number file) ≡ None → length file ≤ 2 ^ 32
unfolding head_tests
head_is_small number file none = ltb-false _ _ (none_stands (head_tests number file) 0 _ none refl)

pub image_is_small : (number : ℕ) (file : List ℕ) → first_standing (image_tests number file) ≡ None → length file ≤ 2 ^ 32
unfolding image_tests
image_is_small number file none =
    let layout = (none-append (layout_tests number file) (table_tests (image_of_file number file)) none).0 in
    head_is_small number file (none-append (head_tests number file) (placing_tests number (head_of file) (length file)) layout).0

-- what holds in any case holds on an error
pub on_any : {X E : Type 0} (r : Result X E) (P : Type 0) → P → OnErr r P
on_any (Ok x) P p = tt
on_any (Err e) P p = p
