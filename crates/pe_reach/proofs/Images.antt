-- Files that agree before the end of the bytes that the headers name lay out one image, and have the same faults 1 to 15.
use Rattle.std.proofs.Common.{◌≡◌, ℕ, zero, suc, ◌+◌, ◌-◌, ◌*◌, ◌^◌, ◌<◌, ◌≤◌, true, false, List, [], ◌∷◌, ◌++◌, length, Option, None, Some, refl, sym, ◌∙◌, ap, ap₂, arith, inl, inr}
use Rattle.std.specs.Prelude.{◌==◌, ◌&&◌, ◌||◌, not, nat_lt, nat_le, max, map, find, if◌then◌else◌}
use Rattle.std.specs.List.{range_with_len}
use Rattle.std.proofs.Math.Path.{fun_ext}
use Rattle.std.proofs.lemmas.Bool.{cases_Bool, ltb-true, le-leb, le-ltb, lt-ltb}
use Rattle.std.proofs.Common.{get_or}
use Rattle.std.proofs.lemmas.List.{get_or-take, get_or_append_left, length-append}
use Rattle.pe_view.specs.declared.fault.Place.TheVariants.{File}
use Rattle.pe_view.specs.Number.{num, byte_of}
use Rattle.pe_view.specs.Text.{zero_ended}
use Rattle.pe_view.specs.Faults.{Test, test, first_standing}
use Rattle.pe_view.specs.FirstStanding.{first-append}
use Rattle.std.specs.Option.{option_or}
use Rattle.pe_head.specs.declared.section.SectionHeader.{SectionHeader}
use Rattle.pe_head.specs.declared.headers.Headers.{Headers}
use Rattle.pe_head.specs.Section.{rawlen}
use Rattle.pe_head.specs.Optional.{fixed_size_of}
use Rattle.pe_head.specs.declared.optional.Magic.{Magic}
use Rattle.pe_head.specs.declared.optional.Magic.TheVariants.{Pe32, Pe32Plus}
use Rattle.pe_head.specs.Head.{head_of, magic_of, pe_offset, coff_field, field, directory_count, fixed_size}
use Rattle.pe_head.specs.HeaderFaults.{head_tests}
use Rattle.pe_layout.specs.Locating.{raw_left}
use Rattle.pe_layout.specs.Piece.{end_of, holds, section_of}
use Rattle.pe_layout.specs.Plain.{plain, section_byte}
use Rattle.pe_layout.specs.PieceText.{text}
use Rattle.pe_layout.specs.Image.{directory_of, slot_width_of, image_from, image_of_file}
use Rattle.pe_layout.specs.SectionFaults.{placing_tests, sections_tests}
use Rattle.pe_reach.specs.Reach.{AgreeBefore, HaveBoth, Begins, Decide, headers_end, image_end, raw_end, SameAnswers}
use Rattle.pe_reach.proofs.Headers.{headers_agree, num_agrees, pe_agrees, coff_agrees, field_agrees, pe32_agrees, count_agrees}

-- agreement before an end is agreement before a lower one
pub lower : (low high : ℕ) (f g : List ℕ) → low ≤ high → AgreeBefore high f g → AgreeBefore low f g
lower low high f g le a = record { tails = omega (arith, a.tails, le); bytes = λ k lt. a.bytes k (omega arith) }

pub agree_of_both : (end : ℕ) (f g : List ℕ) → HaveBoth end f g → AgreeBefore end f g
agree_of_both end f g a = record { tails = omega (arith, a.reach_f, a.reach_g); bytes = a.bytes }

-- faults 1 to 12, of the numbers of which they are made
abbrev tests_from : (image n p mz pe opt count fixed magic sections size_of_image size_of_headers : ℕ) → List Test
tests_from image n p mz pe opt count fixed magic sections size_of_image size_of_headers =
    let table = p + 24 + opt in
    let table_end = table + 40 * sections in
    let bytes = if nat_le (p + 24 + fixed) n then 8 * count else 0 in
    test 1 image (File (2 ^ 32)) (nat_lt (2 ^ 32) n)
    ∷ test 2 image (File n) (nat_lt n 64)
    ∷ test 3 image (File 0) (not (mz == 0x5a4d))
    ∷ test 4 image (File 60) (nat_lt n (p + 24))
    ∷ test 5 image (File p) (not (pe == 0x4550))
    ∷ test 6 image (File (p + 24)) (not (nat_le (p + 24 + 0 + 2) n && (magic == 0x10b || magic == 0x20b)))
    ∷ test 7 image (File (p + 20)) (nat_lt opt (fixed + bytes))
    ∷ test 8 image (File (p + 20)) (nat_lt n table)
    ∷ test 9 image (File (p + 6)) (nat_lt 96 sections)
    ∷ test 10 image (File (p + 6)) (nat_lt n table_end)
    ∷ test 11 image (File (p + 80)) (size_of_image == 0 || nat_lt (2 ^ 31) size_of_image)
    ∷ test 12 image (File (p + 84)) (nat_lt size_of_headers table_end || (nat_lt n size_of_headers || nat_lt size_of_image size_of_headers))
    ∷ []

head_tests_from : (image : ℕ) (f : List ℕ) → head_tests image f ≡ tests_from image (length f) (pe_offset f) (num (byte_of f) 0 2) (num (byte_of f) (pe_offset f) 4) (coff_field f 16 2) (directory_count f) (fixed_size f) (field f 0 2) (coff_field f 2 2) (field f 56 4) (field f 60 4)
unfolding head_tests
head_tests_from image f = refl

raw_some : (p n : ℕ) → 0 < n → (if nat_lt 0 n then p + n else 0) ≡ p + n
raw_some p n some = rw (lt-ltb 0 n some) refl

-- a byte of raw data is before its end
in_raw : (p n k end : ℕ) → k < n → (if nat_lt 0 (n) then p + n else 0) ≤ end → p + k < end
in_raw p n k end lt le = omega (arith, raw_some p n (omega arith), lt, le)

-- the byte of a section
byte_agrees_one : (end : ℕ) (f g : List ℕ) (r : ℕ) (s : SectionHeader) → AgreeBefore end f g → (if nat_lt 0 (rawlen s) then s.pointer_to_raw_data + rawlen s else 0) ≤ end → section_byte f r (Some s) ≡ section_byte g r (Some s)
byte_agrees_one end f g r s a le = elim (cases_Bool (nat_lt (r - s.virtual_address) (rawlen s))) [
  | inl e ↦ rw e (a.bytes (s.pointer_to_raw_data + (r - s.virtual_address)) (in_raw s.pointer_to_raw_data (rawlen s) (r - s.virtual_address) end (ltb-true _ _ e) le))
  | inr e ↦ rw e refl
]

section_byte_agrees : (end : ℕ) (f g : List ℕ) (r : ℕ) (ss : List SectionHeader) → AgreeBefore end f g → raw_end ss ≤ end → section_byte f r (find (holds r) ss) ≡ section_byte g r (find (holds r) ss)
section_byte_agrees end f g r [] a le = refl
section_byte_agrees end f g r (s ∷ ss) a le = elim (cases_Bool (holds r s)) [
  | inl e ↦ rw e (byte_agrees_one end f g r s a (omega arith))
  | inr e ↦ rw e (section_byte_agrees end f g r ss a (omega arith))
]

plain_agrees : (f g : List ℕ) → AgreeBefore (image_end g) f g → (r : ℕ) → plain (head_of g) f r ≡ plain (head_of g) g r
plain_agrees f g a r = elim (cases_Bool (nat_lt r (head_of g).size_of_headers)) [
  | inl e ↦ rw e (a.bytes r (omega (arith, ltb-true _ _ e)))
  | inr e ↦ rw e (section_byte_agrees (image_end g) f g r (head_of g).sections.items a (omega arith))
]

-- the text at an RVA, by the bytes of the image
abbrev section_text_by : Headers → (ℕ → ℕ) → ℕ → Option SectionHeader → Option (List ℕ)
section_text_by h b r None = Some []
section_text_by h b r (Some s) = zero_ended (map b (range_with_len r (end_of s - r)))

abbrev text_by : Headers → (ℕ → ℕ) → ℕ → Option (List ℕ)
text_by h b r =
    if nat_le h.size_of_image r then None
    else (if nat_lt r h.size_of_headers then zero_ended (map b (range_with_len r (h.size_of_headers - r)))
    else section_text_by h b r (section_of h r))

section_text_is : (h : Headers) (f : List ℕ) (r : ℕ) (s : Option SectionHeader) → section_text_by h (plain h f) r s ≡ Rattle.pe_layout.specs.PieceText.section_text h f r s
section_text_is h f r None = refl
section_text_is h f r (Some s) = refl

text_is : (h : Headers) (f : List ℕ) → text h f ≡ text_by h (plain h f)
text_is h f = fun_ext (λ r. ap (λ t. if nat_le h.size_of_image r then None else (if nat_lt r h.size_of_headers then zero_ended (map (plain h f) (range_with_len r (h.size_of_headers - r))) else t)) (sym (section_text_is h f r (section_of h r))))

image_agrees : (number : ℕ) (f g : List ℕ) → AgreeBefore (image_end g) f g → image_from number (head_of g) f ≡ image_from number (head_of g) g
image_agrees number f g a =
    let h = head_of g in
    let bytes : plain h f ≡ plain h g = fun_ext (plain_agrees f g a) in
    let texts : text h f ≡ text h g = text_is h f ∙ ap (text_by h) bytes ∙ sym (text_is h g) in
    λ i. record {
      number = number;
      size = h.size_of_image;
      byte = bytes i;
      raw_left = raw_left h;
      text = texts i;
      directory = directory_of h;
      slot_width = slot_width_of h.magic;
      image_base = h.image_base;
      is_stripped = (image_from number h g).is_stripped;
    }

pub same_image_of : (number : ℕ) (f g : List ℕ) → AgreeBefore (image_end g) f g → image_of_file number f ≡ image_of_file number g
same_image_of number f g a =
    ap (λ (h : Headers). image_from number h f) (headers_agree f g (lower (headers_end g) (image_end g) f g (omega arith) a)) ∙ image_agrees number f g a

-- faults 1 to 12 of a file that holds all its headers, by its first fault: its length is in none of them
abbrev tests_held : (image p mz pe opt count fixed magic sections size_of_image size_of_headers : ℕ) → List Test
tests_held image p mz pe opt count fixed magic sections size_of_image size_of_headers =
    let table_end = p + 24 + opt + 40 * sections in
    test 3 image (File 0) (not (mz == 0x5a4d))
    ∷ test 5 image (File p) (not (pe == 0x4550))
    ∷ test 6 image (File (p + 24)) (not (magic == 0x10b || magic == 0x20b))
    ∷ test 7 image (File (p + 20)) (nat_lt opt (fixed + 8 * count))
    ∷ test 9 image (File (p + 6)) (nat_lt 96 sections)
    ∷ test 11 image (File (p + 80)) (size_of_image == 0 || nat_lt (2 ^ 31) size_of_image)
    ∷ test 12 image (File (p + 84)) (nat_lt size_of_headers table_end || nat_lt size_of_image size_of_headers)
    ∷ []

first_held : (image n p mz pe opt count fixed magic sections size_of_image size_of_headers : ℕ) → n ≤ 2 ^ 32 → 64 ≤ n → p + 264 ≤ n → fixed ≤ 240 → p + 24 + opt + 40 * sections ≤ n → size_of_headers ≤ n
    → first_standing (tests_from image n p mz pe opt count fixed magic sections size_of_image size_of_headers) ≡ first_standing (tests_held image p mz pe opt count fixed magic sections size_of_image size_of_headers)
first_held image n p mz pe opt count fixed magic sections size_of_image size_of_headers large some head fits table headers =
    let t1 : nat_lt (2 ^ 32) n ≡ false = le-ltb (2 ^ 32) n large in
    let t2 : nat_lt n 64 ≡ false = le-ltb n 64 some in
    let t4 : nat_lt n (p + 24) ≡ false = le-ltb n (p + 24) (omega arith) in
    let t6 : nat_le (p + 24 + 0 + 2) n ≡ true = le-leb (p + 24 + 0 + 2) n (omega arith) in
    let t7 : nat_le (p + 24 + fixed) n ≡ true = le-leb (p + 24 + fixed) n (omega arith) in
    let t8 : nat_lt n (p + 24 + opt) ≡ false = le-ltb n (p + 24 + opt) (omega arith) in
    let t10 : nat_lt n (p + 24 + opt + 40 * sections) ≡ false = le-ltb n (p + 24 + opt + 40 * sections) table in
    let t12 : nat_lt n size_of_headers ≡ false = le-ltb n size_of_headers headers in
    rw (t1, t2, t4, t6, t7, t8, t10, t12) refl

fixed_small : (m : Magic) → fixed_size_of m ≤ 240
fixed_small Pe32 = omega arith
fixed_small Pe32Plus = omega arith

first_held_of : (image : ℕ) (f : List ℕ) → length f ≤ 2 ^ 32 → headers_end f ≤ length f → (head_of f).size_of_headers ≤ length f
    → first_standing (head_tests image f) ≡ first_standing (tests_held image (pe_offset f) (num (byte_of f) 0 2) (num (byte_of f) (pe_offset f) 4) (coff_field f 16 2) (directory_count f) (fixed_size f) (field f 0 2) (coff_field f 2 2) (field f 56 4) (field f 60 4))
first_held_of image f small held headers =
    ap first_standing (head_tests_from image f)
    ∙ first_held image (length f) (pe_offset f) (num (byte_of f) 0 2) (num (byte_of f) (pe_offset f) 4) (coff_field f 16 2) (directory_count f) (fixed_size f) (field f 0 2) (coff_field f 2 2) (field f 56 4) (field f 60 4)
    small (omega arith) (omega arith) (fixed_small (magic_of f)) (omega arith) headers

-- the same of two files
pub head_first_agrees : (image end : ℕ) (f g : List ℕ) → headers_end g ≤ end → (head_of g).size_of_headers ≤ end → HaveBoth end f g → first_standing (head_tests image f) ≡ first_standing (head_tests image g)
head_first_agrees image end f g held covers both =
    let a : AgreeBefore (headers_end g) f g = lower (headers_end g) end f g held (agree_of_both end f g both) in
    let mz : num (byte_of f) 0 2 ≡ num (byte_of g) 0 2 = num_agrees (headers_end g) (byte_of f) (byte_of g) a.bytes 0 2 (omega arith) in
    let pe : num (byte_of f) (pe_offset f) 4 ≡ num (byte_of g) (pe_offset g) 4 =
    ap (λ p. num (byte_of f) p 4) (pe_agrees f g a) ∙ num_agrees (headers_end g) (byte_of f) (byte_of g) a.bytes (pe_offset g) 4 (omega arith) in
    let fixed : fixed_size f ≡ fixed_size g = ap (λ b. fixed_size_of (if b then Pe32 else Pe32Plus)) (pe32_agrees f g a) in
    let same : tests_held image (pe_offset f) (num (byte_of f) 0 2) (num (byte_of f) (pe_offset f) 4) (coff_field f 16 2) (directory_count f) (fixed_size f) (field f 0 2) (coff_field f 2 2) (field f 56 4) (field f 60 4)
    ≡ tests_held image (pe_offset g) (num (byte_of g) 0 2) (num (byte_of g) (pe_offset g) 4) (coff_field g 16 2) (directory_count g) (fixed_size g) (field g 0 2) (coff_field g 2 2) (field g 56 4) (field g 60 4) =
    λ i. tests_held image (pe_agrees f g a i) (mz i) (pe i) (coff_agrees f g a 16 2 (omega arith) i) (count_agrees f g a i) (fixed i)
    (field_agrees f g a 0 2 (omega arith) i) (coff_agrees f g a 2 2 (omega arith) i) (field_agrees f g a 56 4 (omega arith) i) (field_agrees f g a 60 4 (omega arith) i) in
    let heads : head_of f ≡ head_of g = headers_agree f g a in
    let ends : headers_end f ≡ headers_end g = ap₂ (λ p t. max (max 64 (p + 24 + 240)) t) (pe_agrees f g a) (λ i. pe_agrees f g a i + 24 + coff_agrees f g a 16 2 (omega arith) i + 40 * coff_agrees f g a 2 2 (omega arith) i) in
    first_held_of image f both.small_f (omega (arith, ends, held, both.reach_f)) (omega (arith, ap (λ (h : Headers). h.size_of_headers) heads, covers, both.reach_f))
    ∙ ap first_standing same
    ∙ sym (first_held_of image g both.small_g (omega (arith, held, both.reach_g)) (omega (arith, covers, both.reach_g)))

-- fault 13 of a section whose raw data two files hold
held_test : (m n p len : ℕ) → (if nat_lt 0 (len) then p + len else 0) ≤ m → (if nat_lt 0 (len) then p + len else 0) ≤ n → (nat_lt 0 len && nat_lt m (p + len)) ≡ (nat_lt 0 len && nat_lt n (p + len))
held_test m n p zero lm ln = refl
held_test m n p (suc len) lm ln =
    let e = raw_some p (suc len) (omega arith) in
    ap (λ b. nat_lt 0 (suc len) && b) (le-ltb m (p + suc len) (omega (arith, e, lm)) ∙ sym (le-ltb n (p + suc len) (omega (arith, e, ln))))

placing_agrees : (image : ℕ) (h : Headers) (m n before k : ℕ) (ss : List SectionHeader) → raw_end ss ≤ m → raw_end ss ≤ n → sections_tests image h m before k ss ≡ sections_tests image h n before k ss
unfolding sections_tests
placing_agrees image h m n before k [] lm ln = refl
placing_agrees image h m n before k (s ∷ ss) lm ln =
    rw (held_test m n s.pointer_to_raw_data (rawlen s) (omega arith) (omega arith), placing_agrees image h m n (end_of s) (k + 1) ss (omega arith) (omega arith)) refl

pub same_answers : (f g : List ℕ) → HaveBoth (image_end g) f g → SameAnswers f g
same_answers f g both =
    let below = agree_of_both (image_end g) f g both in
    let heads : head_of f ≡ head_of g = headers_agree f g (lower (headers_end g) (image_end g) f g (omega arith) below) in
    record {
      headers = heads;
      first = λ number.
          first-append (head_tests number f) (placing_tests number (head_of f) (length f))
          ∙ ap₂ option_or (head_first_agrees number (image_end g) f g (omega arith) (omega arith) both)
          (ap first_standing (ap (λ (h : Headers). placing_tests number h (length f)) heads
          ∙ placing_agrees number (head_of g) (length f) (length g) 0 0 (head_of g).sections.items (omega (arith, both.reach_f)) (omega (arith, both.reach_g))))
          ∙ sym (first-append (head_tests number g) (placing_tests number (head_of g) (length g)));
      image = λ number. same_image_of number f g below;
    }

-- a beginning that reaches the end that its headers name
pub enough : (held : List ℕ) (len : ℕ) (file : List ℕ) → len ≤ 2 ^ 32 → length held ≤ len → image_end held ≤ length held → Begins held len file → SameAnswers file held
enough held len file small fits reach b = same_answers file held (record {
  reach_f = omega (arith, b.size, fits, reach);
  reach_g = reach;
  small_f = omega (arith, b.size, small);
  small_g = omega (arith, fits, small);
  bytes = λ k lt. sym (get_or-take (length held) file k 0 (omega (arith, lt, reach))) ∙ ap (λ (l : List ℕ). get_or l k 0) b.begins;
})

-- the end is that of the headers, whatever comes after these
same_end : (f g : List ℕ) → AgreeBefore (headers_end g) f g → image_end f ≡ image_end g
same_end f g a =
    let ends : headers_end f ≡ headers_end g = ap₂ (λ p t. max (max 64 (p + 24 + 240)) t) (pe_agrees f g a) (λ i. pe_agrees f g a i + 24 + coff_agrees f g a 16 2 (omega arith) i + 40 * coff_agrees f g a 2 2 (omega arith) i) in
    ap₂ (λ (n : ℕ) (h : Headers). max n (max h.size_of_headers (raw_end h.sections.items))) ends (headers_agree f g a)

-- bytes with all headers, and more bytes up to the end that these name
pub decide_with : (begin more : List ℕ) (len : ℕ) → headers_end begin ≤ length begin → len ≤ 2 ^ 32 → image_end begin ≤ length (begin ++ more) → length (begin ++ more) ≤ len → Decide len (begin ++ more)
decide_with begin more len held small reach fits =
    let size : length (begin ++ more) ≡ length begin + length more = length-append begin more in
    let before : AgreeBefore (headers_end begin) (begin ++ more) begin = record {
      tails = omega (arith, size, held);
      bytes = λ k lt. get_or_append_left begin more 0 k (omega (arith, lt, held));
    } in
    λ file b. enough (begin ++ more) len file small fits (omega (arith, same_end (begin ++ more) begin before, reach)) b
