-- Facts about the headers of a file without a header fault, for the crates that use this one.
use Rattle.std.proofs.Common.{◌≡◌, ℕ, zero, suc, ◌+◌, ◌*◌, ◌^◌, ◌<◌, ◌≤◌, Bool, true, false, cond, List, length, None, refl, inl, inr, arith}
use Rattle.std.specs.Prelude.{nat_le, ◌==◌}
use Rattle.std.proofs.lemmas.Bool.{or_parts, ltb-false, le-leb, cases_Bool}
use Rattle.pe_view.specs.Faults.{first_standing}
use Rattle.pe_view.specs.FirstStanding.{none_stands}
use Rattle.pe_view.specs.Number.{num, byte_of}
use Rattle.pe_head.specs.Head.{head_of, is_pe32, optional_start, fixed_size, directory_count, coff_field, field, table_start, section_start}
use Rattle.pe_head.specs.HeaderFaults.{head_tests}
use Rattle.pe_head.specs.Optional.{image_base_offset, image_base_width}

-- the headers are inside the file and the image
pub headers_inside : (image : ℕ) (file : List ℕ) → first_standing (head_tests image file) ≡ None → ((head_of file).size_of_headers ≤ length file) × ((head_of file).size_of_headers ≤ (head_of file).size_of_image)
unfolding head_tests
headers_inside image file none =
    let parts = or_parts _ _ (none_stands (head_tests image file) 11 _ none refl) in
    let more = or_parts _ _ parts.1 in
    (ltb-false _ _ more.0, ltb-false _ _ more.1)

-- the greatest size of an image
pub image_small : (image : ℕ) (file : List ℕ) → first_standing (head_tests image file) ≡ None → (head_of file).size_of_image ≤ 2 ^ 31
unfolding head_tests
image_small image file none = ltb-false _ _ (or_parts _ _ (none_stands (head_tests image file) 10 _ none refl)).1

-- ImageBase, by the form of the optional header
pub image_base_number : (file : List ℕ) → (head_of file).image_base ≡ num (byte_of file) ((head_of file).pe_offset + 24 + image_base_offset (head_of file).magic) (image_base_width (head_of file).magic)
image_base_number file = elim (cases_Bool (is_pe32 file)) [
  | inl pe32 ↦ rw pe32 refl
  | inr pe32_plus ↦ rw pe32_plus refl
]

-- How the headers of a file nest: the directories end at or before the section table, and this ends within SizeOfHeaders; the
-- image is not empty.
pub record HeadersNest (file : List ℕ) : Type 0 where
  pub optional : optional_start file + fixed_size file + 8 * directory_count file ≤ table_start file
  pub table : section_start file (coff_field file 2 2) ≤ field file 60 4
  pub some : 0 < field file 56 4

bytes_by : (b : Bool) (s f n : ℕ) → b ≡ true → f + cond b n 0 ≤ s → f + n ≤ s
bytes_by true s f n is le = le
bytes_by false s f n is le = absurd cc

positive : (n : ℕ) → (n == 0) ≡ false → 0 < n
positive zero is = absurd cc
positive (suc n) is = omega arith

pub headers_nest : (image : ℕ) (file : List ℕ) → first_standing (head_tests image file) ≡ None → HeadersNest file
unfolding head_tests
headers_nest image file none =
    let small = ltb-false _ _ (none_stands (head_tests image file) 6 _ none refl) in
    let inside = ltb-false _ _ (none_stands (head_tests image file) 7 _ none refl) in
    let sizes = or_parts _ _ (none_stands (head_tests image file) 11 _ none refl) in
    let fixed : optional_start file + fixed_size file ≤ length file = omega arith in
    let all = bytes_by (nat_le (optional_start file + fixed_size file) (length file)) (coff_field file 16 2) (fixed_size file) (8 * directory_count file) (le-leb _ _ fixed) small in
    record {
      optional = omega arith;
      table = ltb-false _ _ sizes.0;
      some = positive (field file 56 4) (or_parts _ _ (none_stands (head_tests image file) 10 _ none refl)).0;
    }
