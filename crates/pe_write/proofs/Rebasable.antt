-- Facts about a file without a fault for another base.
use Rattle.std.proofs.Common.{◌≡◌, ℕ, ◌+◌, ◌%◌, ◌^◌, ◌<◌, ◌≤◌, ◌⊎◌, true, false, List, [], ◌++◌, length, take, drop, Some, None, refl, sym, ap, ◌∙◌, inl, inr, arith, subst}
use Rattle.std.specs.Prelude.{map, find, All, AllPairs}
use Rattle.std.proofs.lemmas.Bool.{ltb-false}
use Rattle.std.proofs.lemmas.Bool.Decides.{nat_tests}
use Rattle.pe_view.specs.Number.{num, byte_of, part, digit, is_in}
use Rattle.pe_view.specs.Faults.{first_standing}
use Rattle.pe_view.specs.FirstStanding.{none_stands, none-append}
use Rattle.pe_head.specs.declared.optional.Magic.{Magic}
use Rattle.pe_head.specs.declared.optional.Magic.TheVariants.{Pe32, Pe32Plus}
use Rattle.pe_head.specs.declared.headers.Headers.{Headers}
use Rattle.pe_head.specs.declared.section.SectionHeader.{SectionHeader}
use Rattle.pe_head.specs.Section.{rawlen}
use Rattle.pe_layout.specs.Piece.{end_of}
use Rattle.std.proofs.lemmas.List.{ext_get_or, length-take-le, length-drop, get_or-take, get_or-drop}
use Rattle.pe_head.specs.Head.{head_of, magic_of, optional_start, pe_offset, field, is_pe32}
use Rattle.pe_head.specs.HeaderFaults.{head_tests}
use Rattle.pe_head.specs.Accepted.{HeadersNest, headers_inside, headers_nest}
use Rattle.pe_head.specs.Optional.{image_base_offset, image_base_width}
use Rattle.pe_layout.specs.SectionFaults.{layout_tests, placing_tests}
use Rattle.pe_layout.specs.Image.{LaidOut, image_from, image_of_file}
use Rattle.pe_layout.specs.Plain.{plain}
use Rattle.pe_tables.specs.Fixups.{fixups_of}
use Rattle.pe_tables.specs.declared.fixups.Fixup.{Fixup}
use Rattle.pe_tables.specs.FixupFaults.{fixup_tests}
use Rattle.pe_tables.specs.Imports.{imports_of}
use Rattle.pe_tables.specs.ImportFaults.{import_tests}
use Rattle.pe_write.proofs.Writes.{covers}
use Rattle.pe_set.specs.Placement.{address_limit}
use Rattle.pe_write.specs.Rebase.{IsFree, check_sum_place}
use Rattle.pe_write.proofs.Writes.{rebased_from, rebase_writes, image_base_write, check_sum_write}
use Rattle.pe_write.specs.RebaseFaults.{own_base_tests, fields_tests, ranges_tests, data_tests, rebase_tests}
use Rattle.pe_image.specs.ImageTests.{relocation_tests}
use Rattle.pe_write.specs.Rewriting.{AreLaid}
use Rattle.pe_write.proofs.Lists.{Each, each_at, in_range, below_range, above_range}
use Rattle.pe_write.proofs.Bytes.{byte_written, same_num, length-writes}
use Rattle.pe_write.proofs.Apart.{raw_apart}
use Rattle.pe_write.proofs.Kept.{Kept, Lies, all_kept, where_at}
use Rattle.pe_write.proofs.Moved.{header_kept, free_behind, plain-rebased}
use Rattle.pe_view.specs.Digits.{num_of_own_digits}
use Rattle.pe_write.proofs.HeadKept.{KeepsHead, fixed_of, head-kept}
use Rattle.pe_write.proofs.Again.{IsRebasedImage}
use Rattle.pe_write.proofs.Whole.{FieldsApart}

-- the parts of the faults
pub record NoneOf (file : List ℕ) (base : ℕ) : Type 0 where
  pub layout : first_standing (layout_tests 0 file) ≡ None
  pub fixups : first_standing (fixup_tests (image_of_file 0 file) (map (λ import. import.slot) (imports_of (image_of_file 0 file)))) ≡ None
  pub placed : first_standing (own_base_tests (head_of file).magic (image_of_file 0 file) base) ≡ None
  pub fields : first_standing (fields_tests (head_of file) (fixups_of (image_of_file 0 file))) ≡ None
  pub ranges : first_standing (ranges_tests (head_of file) [] 0 (head_of file).sections.items) ≡ None

pub none_of : (file : List ℕ) (base : ℕ) → first_standing (rebase_tests file base) ≡ None → NoneOf file base
unfolding rebase_tests
none_of file base none =
    let h = head_of file in
    let i = image_of_file 0 file in
    let after_tables = own_base_tests h.magic i base ++ data_tests h (fixups_of i) in
    let all = none-append (layout_tests 0 file) (relocation_tests i ++ after_tables) none in
    let rest = none-append (relocation_tests i) after_tables all.1 in
    let tables = none-append (import_tests i) (fixup_tests i (map (λ import. import.slot) (imports_of i))) rest.0 in
    let places = none-append (own_base_tests h.magic i base) (data_tests h (fixups_of i)) rest.1 in
    let files = none-append (fields_tests h (fixups_of i)) (ranges_tests h [] 0 h.sections.items) places.1 in
    record { layout = all.0; fixups = tables.1; placed = places.0; fields = files.0; ranges = files.1 }

-- a file without a fault for a base, and facts about it from other crates
pub record IsSound (file : List ℕ) (base : ℕ) : Type 0 where
  pub none : NoneOf file base
  pub laid : AreLaid (head_of file) (length file)
  pub apart : AllPairs FieldsApart (fixups_of (image_of_file 0 file))

-- facts about sections and fields from other crates
pub record Laws : Type 0 where
  pub behind : (image : ℕ) (file : List ℕ) → first_standing (layout_tests image file) ≡ None → All (λ (s : SectionHeader). (head_of file).size_of_headers ≤ s.virtual_address) (head_of file).sections.items
  pub apart : (image : ℕ) (file : List ℕ) → first_standing (layout_tests image file) ≡ None → AllPairs (λ (s later : SectionHeader). end_of s ≤ later.virtual_address) (head_of file).sections.items
  pub held : (image : ℕ) (file : List ℕ) → first_standing (layout_tests image file) ≡ None → All (λ (s : SectionHeader). 0 < rawlen s → s.pointer_to_raw_data + rawlen s ≤ length file) (head_of file).sections.items
  pub fields : (i : LaidOut) (slots : List ℕ) → first_standing (fixup_tests i slots) ≡ None → AllPairs FieldsApart (fixups_of i)

pub laid_of : Laws → (file : List ℕ) → first_standing (layout_tests 0 file) ≡ None → AreLaid (head_of file) (length file)
laid_of laws file laid = record { behind = laws.behind 0 file laid; apart = laws.apart 0 file laid; held = laws.held 0 file laid }

pub sound : Laws → (file : List ℕ) (base : ℕ) → first_standing (rebase_tests file base) ≡ None → IsSound file base
sound laws file base none =
    let n = none_of file base none in
    record { none = n; laid = laid_of laws file n.layout; apart = laws.fields (image_of_file 0 file) (map (λ import. import.slot) (imports_of (image_of_file 0 file))) n.fixups }

-- ImageBase and CheckSum are inside the headers
own_inside : (file : List ℕ) → HeadersNest file → (head_of file).pe_offset + 24 + 68 ≤ (head_of file).size_of_headers
own_inside file nest =
    let optional = nest.optional in
    let table = nest.table in
    let most = fixed_of (magic_of file) in
    omega arith

head_none : (file : List ℕ) → first_standing (layout_tests 0 file) ≡ None → first_standing (head_tests 0 file) ≡ None
head_none file laid = (none-append (head_tests 0 file) (placing_tests 0 (head_of file) (length file)) laid).0

-- and therefore inside the file
pub check_sum_held : (file : List ℕ) → first_standing (head_tests 0 file) ≡ None → check_sum_place (head_of file) + 4 ≤ length file
check_sum_held file head =
    let own = own_inside file (headers_nest 0 file head) in
    let held = (headers_inside 0 file head).0 in
    omega arith

pub own_fields : (file : List ℕ) → first_standing (layout_tests 0 file) ≡ None → check_sum_place (head_of file) + 4 ≤ length file
own_fields file laid = check_sum_held file (head_none file laid)

module _ (file : List ℕ) (base : ℕ) (n : IsSound file base) where
  head_is_none : first_standing (head_tests 0 file) ≡ None
  head_is_none = head_none file n.none.layout

  pub nest : HeadersNest file
  nest = headers_nest 0 file head_is_none

  pub lies : Lies (head_of file) (length file)
  lies = record {
    held = (headers_inside 0 file head_is_none).0;
    own = own_inside file nest;
    laid = n.laid;
    apart = raw_apart (head_of file) [] 0 (head_of file).sections.items n.none.ranges;
  }

  pub kept : Each (Kept (head_of file)) (fixups_of (image_from 0 (head_of file) file))
  kept = all_kept (head_of file) (fixups_of (image_of_file 0 file)) n.none.fields

  -- the base is below the end of the address space
  pub base_small : base < address_limit (head_of file).magic
  base_small =
      let le = ltb-false _ _ (none_stands (own_base_tests (head_of file).magic (image_of_file 0 file) base) 1 _ n.none.placed refl) in
      let some = nest.some in
      omega arith

base_offset_least : (m : Magic) → 24 ≤ image_base_offset m
base_offset_least Pe32 = omega arith
base_offset_least Pe32Plus = omega arith

base_offset_most : (m : Magic) → image_base_offset m + image_base_width m ≤ 32
base_offset_most Pe32 = omega arith
base_offset_most Pe32Plus = omega arith

part_same : (g file : List ℕ) (o w : ℕ) → length g ≡ length file → o + w ≤ length file → ((k : ℕ) → k < w → byte_of g (o + k) ≡ byte_of file (o + k)) → part g o w ≡ part file o w
part_same g file o w len le same =
    let one : length (take w (drop o g)) ≡ w = length-take-le w (drop o g) (omega (arith, length-drop o g)) in
    let other : length (take w (drop o file)) ≡ w = length-take-le w (drop o file) (omega (arith, length-drop o file)) in
    ext_get_or 0 (take w (drop o g)) (take w (drop o file)) (one ∙ sym other)
    (λ k lt. let below : k < w = omega arith in
    get_or-take w (drop o g) k 0 below ∙ get_or-drop o g k 0 ∙ same k below ∙ sym (get_or-take w (drop o file) k 0 below ∙ get_or-drop o file k 0))

module _ (file : List ℕ) (base : ℕ) (n : IsSound file base) where
  free_outside : (o : ℕ) → (o < pe_offset file + 48) ⊎ (pe_offset file + 56 ≤ o) → (o < pe_offset file + 88) ⊎ (pe_offset file + 92 ≤ o) → IsFree (head_of file) o
  free_outside o a b =
      let m = (head_of file).magic in
      let low = base_offset_least m in
      let high = base_offset_most m in
      record {
        image_base = elim a [
          | inl x ↦ below_range (pe_offset file + 24 + image_base_offset m) (image_base_width m) o (omega arith)
          | inr y ↦ above_range (pe_offset file + 24 + image_base_offset m) (image_base_width m) o (omega arith)
        ];
        check_sum = elim b [
          | inl x ↦ below_range (pe_offset file + 24 + 64) 4 o (omega arith)
          | inr y ↦ above_range (pe_offset file + 24 + 64) 4 o (omega arith)
        ];
      }

  before_data : (o : ℕ) → is_pe32 file ≡ true → pe_offset file + 48 ≤ o → o < pe_offset file + 52 → IsFree (head_of file) o
  before_data o is low high =
      let m : magic_of file ≡ Pe32 = rw is refl in
      let Free : Magic → Type 0 = λ magic. is_in (pe_offset file + 24 + image_base_offset magic) (image_base_width magic) o ≡ false in
      record {
        image_base = subst Free (sym m) (below_range (pe_offset file + 24 + 28) 4 o (omega arith));
        check_sum = below_range (pe_offset file + 24 + 64) 4 o (omega arith);
      }

  byte_stays : (o : ℕ) → o < field file 60 4 → IsFree (head_of file) o → byte_of (rebased_from (head_of file) file base) o ≡ byte_of file o
  byte_stays o lt free = header_kept (head_of file) file base (lies file base n) (kept file base n) o lt free

  outside : (o w k : ℕ) → k < w → (o + w ≤ pe_offset file + 48) ⊎ (pe_offset file + 56 ≤ o) → (o + w ≤ pe_offset file + 88) ⊎ (pe_offset file + 92 ≤ o) → IsFree (head_of file) (o + k)
  outside o w k lt a b = free_outside (o + k) (elim a [ inl x ↦ inl (omega arith) | inr y ↦ inr (omega arith) ]) (elim b [ inl x ↦ inl (omega arith) | inr y ↦ inr (omega arith) ])

  -- the bytes of ImageBase have the base
  pub base_bytes : (k : ℕ) → k < image_base_width (head_of file).magic → byte_of (rebased_from (head_of file) file base) (pe_offset file + 24 + image_base_offset (head_of file).magic + k) ≡ digit base k
  base_bytes k lt =
      let h = head_of file in
      let w = image_base_write h base in
      let o : ℕ = pe_offset file + 24 + image_base_offset h.magic + k in
      let l = lies file base n in
      let own = l.own in
      let held = l.held in
      let high = base_offset_most h.magic in
      let here : covers o w ≡ true = in_range (pe_offset file + 24 + image_base_offset h.magic) (image_base_width h.magic) o (omega arith) (omega arith) in
      let first : find (covers o) (rebase_writes h (image_from 0 h file) base) ≡ Some w = rw here refl in
      byte_written (rebase_writes h (image_from 0 h file) base) file o w (omega arith) first ∙ ap (digit base) (omega arith)

  -- and those of CheckSum have 0
  pub sum_bytes : (k : ℕ) → k < 4 → byte_of (rebased_from (head_of file) file base) (pe_offset file + 24 + 64 + k) ≡ digit 0 k
  sum_bytes k lt =
      let h = head_of file in
      let o : ℕ = pe_offset file + 24 + 64 + k in
      let l = lies file base n in
      let own = l.own in
      let held = l.held in
      let high = base_offset_most h.magic in
      let past : covers o (image_base_write h base) ≡ false = above_range (pe_offset file + 24 + image_base_offset h.magic) (image_base_width h.magic) o (omega arith) in
      let here : covers o (check_sum_write h) ≡ true = in_range (pe_offset file + 24 + 64) 4 o (omega arith) (omega arith) in
      let first : find (covers o) (rebase_writes h (image_from 0 h file) base) ≡ Some (check_sum_write h) = rw (past, here) refl in
      byte_written (rebase_writes h (image_from 0 h file) base) file o (check_sum_write h) (omega arith) first ∙ ap (digit 0) (omega arith)

  pub base_number : (m : Magic) → (head_of file).magic ≡ m → num (byte_of (rebased_from (head_of file) file base)) (pe_offset file + 24 + image_base_offset m) (image_base_width m) ≡ base
  base_number m is =
      let Digits : Magic → Type 0 = λ m. (k : ℕ) → k < image_base_width m → byte_of (rebased_from (head_of file) file base) (pe_offset file + 24 + image_base_offset m + k) ≡ digit base k in
      let Below : Magic → Type 0 = λ m. base < address_limit m in
      num_of_own_digits (byte_of (rebased_from (head_of file) file base)) (pe_offset file + 24 + image_base_offset m) (image_base_width m) base (fits m (subst Below is (base_small file base n))) (subst Digits is base_bytes)
    where
      fits : (m : Magic) → base < address_limit m → base < 256 ^ image_base_width m
      fits Pe32 lt = lt
      fits Pe32Plus lt = lt

  -- the headers are unchanged if the written fields overlap no other
  pub keeps_head : 16 ≤ pe_offset file → KeepsHead (rebased_from (head_of file) file base) file base
  keeps_head late =
      let h = head_of file in
      let nests = nest file base n in
      let l = lies file base n in
      let held = l.held in
      let g = rebased_from h file base in
      let own = l.own in
      let len : length g ≡ length file = length-writes (rebase_writes h (image_from 0 h file) base) file in
      record {
        len = len;
        late = late;
        fixed = nests.optional;
        table = nests.table;
        num_kept = λ o w le a b. same_num (byte_of g) (byte_of file) o o w (λ k lt. byte_stays (o + k) (omega arith) (outside o w k lt a b));
        part_kept = λ o w le a b. part_same g file o w len (omega arith) (λ k lt. byte_stays (o + k) (omega arith) (outside o w k lt a b));
        data_kept = λ is. same_num (byte_of g) (byte_of file) (optional_start file + 24) (optional_start file + 24) 4 (λ k lt. byte_stays (optional_start file + 24 + k) (omega arith) (before_data (optional_start file + 24 + k) is (omega arith) (omega arith)));
        base_32 = λ is. base_number Pe32 (rw is refl);
        base_64 = λ is. base_number Pe32Plus (rw is refl);
        sum = num_of_own_digits (byte_of g) (optional_start file + 64) 4 0 (omega arith) sum_bytes;
      }

field_free : (h : Headers) (n : ℕ) (f : Fixup) (k : ℕ) → Lies h n → Kept h f → IsFree h (f.field + k)
field_free h n f k l kept =
    let w = where_at h n f l kept in
    let behind = w.behind in
    let low = w.low in
    free_behind h n (f.field + k) l (omega arith)

aligned_base : (file : List ℕ) (base : ℕ) → IsSound file base → base % 65536 ≡ 0
aligned_base file base n =
    let whole = none_stands (own_base_tests (head_of file).magic (image_of_file 0 file) base) 0 _ n.none.placed refl in
    grind (arith, nat_tests)

-- the image of the new file is the old one relocated to the base
pub image_rebased : (file : List ℕ) (base : ℕ) → IsSound file base → 16 ≤ pe_offset file → fixups_of (image_of_file 0 (rebased_from (head_of file) file base)) ≡ fixups_of (image_of_file 0 file)
    → IsRebasedImage (IsFree (head_of file)) (image_of_file 0 file) (image_of_file 0 (rebased_from (head_of file) file base)) base
image_rebased file base n late same =
    let h = head_of file in
    let g = rebased_from h file base in
    let l = lies file base n in
    let head = head-kept g file base (keeps_head file base n late) in
    record {
      aligned = aligned_base file base n;
      image_base = ap (λ (x : Headers). x.image_base) head;
      bytes = λ r free. ap (λ (x : Headers). plain x g r) head ∙ plain-rebased h file base l (kept file base n) r free;
      fixups = same;
      apart = n.apart;
      fields = λ f k contains small. field_free h (length file) f k l (rw contains.2 at (each_at (Kept h) (fixups_of (image_of_file 0 file)) contains.0 f contains.1 (kept file base n)));
    }
