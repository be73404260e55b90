-- Which faults the first bytes of a file and its size decide.
use Rattle.std.proofs.Common.{◌≡◌, ◌+◌, ◌^◌, ℕ, List, [], ◌∷◌, take, None, Some, refl}
use Rattle.std.specs.Prelude.{codes, replicate}
use Rattle.pe_view.specs.declared.fault.Place.TheVariants.{File}
use Rattle.pe_view.specs.Faults.{first_standing}
use Rattle.pe_reach.specs.Reach.{early_tests}
use Rattle.pe_reach.specs.Views.{early_view_tests}

-- of an image's file, whatever its first bytes are: fault 1, over 2^32 bytes
row_large : first_standing (early_tests [] (2 ^ 32 + 1)) ≡ Some (record { number = 1; image = 0; place = File (2 ^ 32) })
row_large = refl

row_largest : first_standing (early_tests (codes "MZ") (2 ^ 32)) ≡ None
row_largest = refl

-- fault 3, of 64 bytes, which an MS-DOS header takes; fewer have fault 2
row_other : first_standing (early_tests (codes "ZM") 64) ≡ Some (record { number = 3; image = 0; place = File 0 })
row_other = refl

row_short : first_standing (early_tests (codes "ZM") 63) ≡ None
row_short = refl

row_mark : first_standing (early_tests (codes "MZ") 64) ≡ None
row_mark = refl

-- one byte does not decide it
row_half : first_standing (early_tests (codes "Z") 64) ≡ None
row_half = refl

-- the first 28 bytes of an object for AMD64, and of a file that begins with the number of no machine
abbrev object : List ℕ
object = 0x64 ∷ 0x86 ∷ replicate 26 0

abbrev other : List ℕ
other = 0x65 ∷ 0x86 ∷ replicate 26 0

row_large_object : first_standing (early_view_tests object (2 ^ 32 + 1)) ≡ Some (record { number = 61; image = 0; place = File (2 ^ 32 + 1) })
row_large_object = refl

row_object : first_standing (early_view_tests object 64) ≡ None
row_object = refl

row_few : first_standing (early_view_tests (take 27 object) (2 ^ 32 + 1)) ≡ None
row_few = refl

row_large_other : first_standing (early_view_tests other (2 ^ 32 + 1)) ≡ Some (record { number = 1; image = 0; place = File (2 ^ 32) })
row_large_other = refl

row_no_image : first_standing (early_view_tests other 64) ≡ Some (record { number = 3; image = 0; place = File 0 })
row_no_image = refl
