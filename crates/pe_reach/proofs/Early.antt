-- Faults that the first bytes of a file and its size decide.
use Rattle.std.proofs.Common.{◌≡◌, ℕ, ◌^◌, ◌<◌, ◌≤◌, Bool, true, false, List, length, Some, refl, sym, ◌∙◌, ◌+◌, ap, ap₂, subst, arith, get_or}
use Rattle.std.specs.Prelude.{◌==◌, ◌&&◌, ◌||◌, not, nat_lt, nat_le, Option, None, IfSome, is_none, is_some, replicate, [], ◌∷◌, if◌then◌else◌}
use Rattle.std.proofs.lemmas.Bool.{le-ltb, lt-ltb, le-leb, lt-leb, ltb-true, and_left, and_right}
use Rattle.std.proofs.lemmas.List.{get_or-take, length-take, length-replicate}
use Rattle.pe_view.specs.declared.fault.Fault.{Fault}
use Rattle.pe_view.specs.declared.fault.Place.TheVariants.{File}
use Rattle.pe_view.specs.Number.{num, byte_of}
use Rattle.pe_view.specs.Faults.{test, first_standing}
use Rattle.pe_view.specs.FirstStanding.{first-in}
use Rattle.pe_head.specs.Head.{head_of}
use Rattle.pe_head.specs.HeaderFaults.{head_tests}
use Rattle.pe_layout.specs.Image.{image_of_file}
use Rattle.pe_layout.specs.SectionFaults.{layout_tests, placing_tests}
use Rattle.pe_image.specs.ImageTests.{image_tests, table_tests}
use Rattle.coff_read.specs.EitherObject.{form_in}
use Rattle.coff_read.specs.FormFaults as form_faults
use Rattle.coff_read.specs.Forms.{Form}
use Rattle.coff_read.specs.ObjectFaults.{object_tests}
use Rattle.pe_text.specs.FileKind.{is_machine, begins_big_object, is_object, kind_of}
use Rattle.pe_reach.specs.Reach.{AgreeBefore, Begins, Refuse, headers_end, image_end, needed_of, early_tests}
use Rattle.pe_reach.specs.Views.{RefuseView, early_view_tests}
use Rattle.pe_reach.proofs.Headers.{num_agrees, part_agrees}
use Rattle.pe_reach.proofs.Marks.{object_by_mark}

-- a fault of the headers is the first of all
in_image : (file : List ℕ) (fault : Fault) → first_standing (head_tests 0 file) ≡ Some fault → first_standing (image_tests 0 file) ≡ Some fault
unfolding image_tests
in_image file fault is =
    first-in (layout_tests 0 file) (table_tests (image_of_file 0 file)) fault
    (first-in (head_tests 0 file) (placing_tests 0 (head_of file) (length file)) fault is)

pub too_large : (file : List ℕ) → 2 ^ 32 < length file → first_standing (head_tests 0 file) ≡ Some (record { number = 1; image = 0; place = File (2 ^ 32) })
unfolding head_tests
too_large file lt = rw (lt-ltb (2 ^ 32) (length file) lt) refl

no_image : (file : List ℕ) → length file ≤ 2 ^ 32 → 64 ≤ length file → (num (byte_of file) 0 2 == 0x5a4d) ≡ false → first_standing (head_tests 0 file) ≡ Some (record { number = 3; image = 0; place = File 0 })
unfolding head_tests
no_image file small some other = rw (le-ltb (2 ^ 32) (length file) small, le-ltb (length file) 64 some, other) refl

-- the first two bytes
mark_agrees : (begin : List ℕ) (len : ℕ) (file : List ℕ) → 2 ≤ length begin → Begins begin len file → num (byte_of file) 0 2 ≡ num (byte_of begin) 0 2
mark_agrees begin len file two b =
    num_agrees 2 (byte_of file) (byte_of begin) (λ k lt. sym (get_or-take (length begin) file k 0 (omega (arith, lt, two))) ∙ ap (λ (l : List ℕ). get_or l k 0) b.begins) 0 2 (omega arith)

pub refuse_other : (begin : List ℕ) (len : ℕ) → len ≤ 2 ^ 32 → 64 ≤ len → 2 ≤ length begin → (num (byte_of begin) 0 2 == 0x5a4d) ≡ false → Refuse len begin (record { number = 3; image = 0; place = File 0 })
refuse_other begin len small some two other = λ file b.
    in_image file _ (no_image file (omega (arith, b.size, small)) (omega (arith, b.size, some)) (ap (λ n. n == 0x5a4d) (mark_agrees begin len file two b) ∙ other))

-- ---- as an object or as an image
-- the numbers in the first bytes
numbers_agree : (begin : List ℕ) (len : ℕ) (file : List ℕ) → Begins begin len file → (place width : ℕ) → place + width ≤ length begin → num (byte_of file) place width ≡ num (byte_of begin) place width
numbers_agree begin len file b place width within =
    num_agrees (length begin) (byte_of file) (byte_of begin) (λ k lt. sym (get_or-take (length begin) file k 0 (omega (arith, lt))) ∙ ap (λ (l : List ℕ). get_or l k 0) b.begins) place width within

-- a file has the bytes with which it begins
begin_agrees : (begin : List ℕ) (len : ℕ) (file : List ℕ) → Begins begin len file → AgreeBefore (length begin) file begin
begin_agrees begin len file b = record {
  tails = let same = ap (λ (l : List ℕ). length l) b.begins in let taken = length-take (length begin) file in omega (arith, same, taken);
  bytes = λ k lt. sym (get_or-take (length begin) file k 0 lt) ∙ ap (λ (l : List ℕ). get_or l k 0) b.begins;
}

-- files that begin alike are both big objects, or neither
same_big : (begin : List ℕ) (len : ℕ) (file : List ℕ) → 28 ≤ length begin → Begins begin len file → begins_big_object file ≡ begins_big_object begin
same_big begin len file long b =
    let both : 28 ≤ length file = omega (arith, long, ap (λ (l : List ℕ). length l) b.begins, length-take (length begin) file) in
    rw (
      le-leb 28 (length file) both,
      le-leb 28 (length begin) long,
      numbers_agree begin len file b 0 4 (omega (arith, long)),
      numbers_agree begin len file b 4 2 (omega (arith, long)),
      part_agrees (length begin) file begin (begin_agrees begin len file b) 12 16 (omega (arith, long)),
    ) refl

-- files that begin alike are both checked as objects, or neither
same_kind : (begin : List ℕ) (len : ℕ) (file : List ℕ) → 28 ≤ length begin → Begins begin len file → is_object (kind_of file) ≡ is_object (kind_of begin)
same_kind begin len file long b =
    let both : 2 ≤ length file = omega (arith, long, ap (λ (l : List ℕ). length l) b.begins, length-take (length begin) file) in
    object_by_mark file both
    ∙ ap₂ (λ (m big : Bool). m || big) (ap is_machine (mark_agrees begin len file (omega (arith, long)) b)) (same_big begin len file long b)
    ∙ sym (object_by_mark begin (omega (arith, long)))

pub object_too_large : (file : List ℕ) → 2 ^ 32 < length file → first_standing (object_tests file) ≡ Some (record { number = 61; image = 0; place = File (length file) })
unfolding object_tests
object_too_large file lt = rw (le-ltb (length file) 20 (omega (arith, lt)), lt-ltb (2 ^ 32) (length file) lt) refl

large_in : (big : Form) (file : List ℕ) → 2 ^ 32 < length file → first_standing (form_faults.object_tests big file) ≡ Some (record { number = 61; image = 0; place = File (length file) })
unfolding form_faults.object_tests
large_in false file lt = rw (le-ltb (length file) 20 (omega (arith, lt)), lt-ltb (2 ^ 32) (length file) lt) refl
large_in true file lt = rw (le-ltb (length file) 56 (omega (arith, lt)), lt-ltb (2 ^ 32) (length file) lt) refl

-- in either form
pub either_too_large : (file : List ℕ) → 2 ^ 32 < length file → first_standing (form_faults.object_tests (form_in file) file) ≡ Some (record { number = 61; image = 0; place = File (length file) })
either_too_large file lt = large_in (form_in file) file lt

pub refuse_large : (begin : List ℕ) (len : ℕ) (fault : Option Fault) → IfSome fault (λ fault. (file : List ℕ) → length file ≡ len → first_standing (head_tests 0 file) ≡ Some fault) → IfSome fault (λ fault. Refuse len begin fault)
refuse_large begin len None is = tt
refuse_large begin len (Some fault) is = λ file b. in_image file fault (is file b.size)

-- a fault of each image, or of each object, that begins so
pub refuse_image : (begin : List ℕ) (len : ℕ) (fault : Option Fault) → 28 ≤ length begin → is_object (kind_of begin) ≡ false → IfSome fault (λ fault. Refuse len begin fault) → IfSome fault (λ fault. RefuseView len begin fault)
refuse_image begin len None long other refuse = tt
refuse_image begin len (Some fault) long other refuse = λ file b.
    subst (λ (object : Bool). first_standing (if object then form_faults.object_tests (form_in file) file else image_tests 0 file) ≡ Some fault)
    (sym (same_kind begin len file long b ∙ other))
    (refuse file b)

pub refuse_object : (begin : List ℕ) (len : ℕ) (fault : Option Fault) → 28 ≤ length begin → is_object (kind_of begin) ≡ true
    → IfSome fault (λ fault. (file : List ℕ) → length file ≡ len → first_standing (form_faults.object_tests (form_in file) file) ≡ Some fault) → IfSome fault (λ fault. RefuseView len begin fault)
refuse_object begin len None long object refuse = tt
refuse_object begin len (Some fault) long object refuse = λ file b.
    subst (λ (object : Bool). first_standing (if object then form_faults.object_tests (form_in file) file else image_tests 0 file) ≡ Some fault)
    (sym (same_kind begin len file long b ∙ object))
    (refuse file b.size)

-- ---- which fault is returned, and when none is
zeros : ℕ → List ℕ
zeros len = replicate len 0

size_of_zeros : (len : ℕ) → length (zeros len) ≡ len
unfolding zeros
size_of_zeros len = length-replicate len 0

-- a fault that each file of a length has, where there is one exactly if the file is too large
pub is_size_fault : (len : ℕ) (fault : Option Fault) → is_some fault ≡ nat_lt (2 ^ 32) len
    → IfSome fault (λ fault. (file : List ℕ) → length file ≡ len → first_standing (head_tests 0 file) ≡ Some fault)
    → fault ≡ first_standing (test 1 0 (File (2 ^ 32)) (nat_lt (2 ^ 32) len) ∷ [])
is_size_fault len None exact is = rw (sym exact) refl
is_size_fault len (Some fault) exact is =
    let size = size_of_zeros len in
    let lt : 2 ^ 32 < len = ltb-true (2 ^ 32) len (sym exact) in
    rw (sym exact) (sym (is (zeros len) size) ∙ too_large (zeros len) (omega (arith, size, lt)))

pub is_object_size_fault : (len : ℕ) (fault : Option Fault) → is_some fault ≡ nat_lt (2 ^ 32) len
    → IfSome fault (λ fault. (file : List ℕ) → length file ≡ len → first_standing (object_tests file) ≡ Some fault)
    → fault ≡ first_standing (test 61 0 (File len) (nat_lt (2 ^ 32) len) ∷ [])
is_object_size_fault len None exact is = rw (sym exact) refl
is_object_size_fault len (Some fault) exact is =
    let size = size_of_zeros len in
    let lt : 2 ^ 32 < len = ltb-true (2 ^ 32) len (sym exact) in
    rw (sym exact)
    (sym (is (zeros len) size)
    ∙ object_too_large (zeros len) (omega (arith, size, lt))
    ∙ ap (λ count. Some (record { number = 61; image = 0; place = File count })) size)

pub early_large : (begin : List ℕ) (len : ℕ) (fault : Option Fault) → 2 ^ 32 < len
    → fault ≡ first_standing (test 1 0 (File (2 ^ 32)) (nat_lt (2 ^ 32) len) ∷ []) → fault ≡ first_standing (early_tests begin len)
early_large begin len fault lt is = is ∙ rw (lt-ltb (2 ^ 32) len lt) refl

pub early_other : (begin : List ℕ) (len : ℕ) → len ≤ 2 ^ 32 → 64 ≤ len → 2 ≤ length begin → (num (byte_of begin) 0 2 == 0x5a4d) ≡ false
    → first_standing (early_tests begin len) ≡ Some (record { number = 3; image = 0; place = File 0 })
early_other begin len small some two other = rw (le-ltb (2 ^ 32) len small, le-leb 2 (length begin) two, le-leb 64 len some, other) refl

early_none : (begin : List ℕ) (len : ℕ) → len ≤ 2 ^ 32 → (nat_le 2 (length begin) && (nat_le 64 len && not (num (byte_of begin) 0 2 == 0x5a4d))) ≡ false
    → first_standing (early_tests begin len) ≡ None
early_none begin len small unmet = rw (le-ltb (2 ^ 32) len small, unmet) refl

pub early_few : (begin : List ℕ) (len : ℕ) → len ≤ 2 ^ 32 → length begin < 2 → first_standing (early_tests begin len) ≡ None
early_few begin len small few = early_none begin len small (and_left _ _ (lt-leb 2 (length begin) few))

pub early_short : (begin : List ℕ) (len : ℕ) → len < 64 → first_standing (early_tests begin len) ≡ None
early_short begin len short = early_none begin len (omega arith) (and_right _ _ (and_left _ _ (lt-leb 64 len short)))

pub early_mark : (begin : List ℕ) (len : ℕ) → len ≤ 2 ^ 32 → (num (byte_of begin) 0 2 == 0x5a4d) ≡ true → first_standing (early_tests begin len) ≡ None
early_mark begin len small mark = early_none begin len small (and_right _ _ (and_right _ _ (ap not mark)))

pub view_few : (begin : List ℕ) (len : ℕ) → length begin < 28 → first_standing (early_view_tests begin len) ≡ None
view_few begin len few = rw (lt-ltb (length begin) 28 few) refl

pub view_object : (begin : List ℕ) (len : ℕ) (fault : Option Fault) → 28 ≤ length begin → is_object (kind_of begin) ≡ true
    → fault ≡ first_standing (test 61 0 (File len) (nat_lt (2 ^ 32) len) ∷ []) → fault ≡ first_standing (early_view_tests begin len)
view_object begin len fault long object is = is ∙ rw (le-ltb (length begin) 28 long, object) refl

pub view_image : (begin : List ℕ) (len : ℕ) (fault : Option Fault) → 28 ≤ length begin → is_object (kind_of begin) ≡ false
    → fault ≡ first_standing (early_tests begin len) → fault ≡ first_standing (early_view_tests begin len)
view_image begin len fault long other is = is ∙ rw (le-ltb (length begin) 28 long, other) refl

-- ---- how many first bytes are needed
pub needs_none : (begin : List ℕ) (len : ℕ)
    → (is_none (first_standing (head_tests 0 begin)) && (nat_le (headers_end begin) (length begin) && (nat_le (image_end begin) len && nat_le len (2 ^ 32)))) ≡ false
    → needed_of begin len ≡ None
needs_none begin len unmet = rw unmet refl

pub needs_some : (begin : List ℕ) (len : ℕ) → is_none (first_standing (head_tests 0 begin)) ≡ true → headers_end begin ≤ length begin → image_end begin ≤ len → len ≤ 2 ^ 32
    → needed_of begin len ≡ Some (image_end begin)
needs_some begin len none held fits small =
    rw (none, le-leb (headers_end begin) (length begin) held, le-leb (image_end begin) len fits, le-leb len (2 ^ 32) small) refl
