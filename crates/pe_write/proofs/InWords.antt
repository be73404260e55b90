-- A rebased file, byte by byte.
use Rattle.std.proofs.Common.{◌≡◌, ℕ, ◌-◌, ◌<◌, ◌≤◌, true, false, List, length, get_or, Some, None, refl, ap, ◌∙◌, arith}
use Rattle.std.specs.Prelude.{find, option_map}
use Rattle.std.proofs.lemmas.Bool.{false_from_ne_true}
use Rattle.std.proofs.lemmas.List.{get_or_default}
use Rattle.pe_view.specs.Number.{byte_of, digit}
use Rattle.pe_head.specs.Head.{head_of}
use Rattle.pe_layout.specs.Image.{image_of_file}
use Rattle.pe_tables.specs.Fixups.{width_of, fixups_of}
use Rattle.pe_tables.specs.declared.fixups.Fixup.{Fixup}
use Rattle.pe_tables.specs.Relocated.{shifted}
use Rattle.pe_write.proofs.Writes.{covers}
use Rattle.pe_write.specs.Rebase.{IsFree, place_of, check_sum_place}
use Rattle.pe_write.proofs.Writes.{field_write, rebase_writes, rebased_from}
use Rattle.pe_write.specs.Rebased.{IsFieldByte, IsRebased}
use Rattle.pe_write.proofs.Lists.{each_at, find_first, in_range, range_parts, find_none}
use Rattle.pe_write.proofs.Bytes.{byte_kept, byte_written, length-writes}
use Rattle.pe_write.proofs.Kept.{Kept, where_at}
use Rattle.pe_write.proofs.Moved.{free_behind, covering}
use Rattle.pe_view.specs.Digits.{num_of_own_digits}
use Rattle.pe_write.proofs.Sequence.{not_covered}
use Rattle.pe_write.proofs.Rebasable.{IsSound, lies, kept, base_number, sum_bytes}
use Rattle.pe_write.proofs.Whole.{clear_at, each_from}

module _ (file : List ℕ) (base : ℕ) (n : IsSound file base) where
  kept_at : (j : ℕ) (d : Fixup) → j < length (fixups_of (image_of_file 0 file)) → Kept (head_of file) (get_or (fixups_of (image_of_file 0 file)) j d)
  kept_at j d lt = each_at (Kept (head_of file)) (fixups_of (image_of_file 0 file)) j d lt (kept file base n)

  -- a field's write is the first that covers its bytes
  field_found : (f : Fixup) (k o : ℕ) → IsFieldByte file f k o → find (λ g. covers o (field_write (head_of file) (image_of_file 0 file) base g)) (fixups_of (image_of_file 0 file)) ≡ Some f
  field_found f k o b =
      let h = head_of file in
      let i = image_of_file 0 file in
      let fs = fixups_of i in
      let j = b.fixup.0 in
      let inside = b.fixup.1 in
      let is : get_or fs j f ≡ f = b.fixup.2 in
      let place = b.place in
      let small = b.small in
      let here : covers o (field_write h i base f) ≡ true = in_range (place_of h f) (width_of f.kind) o (omega arith) (omega arith) in
      let before = λ (m : ℕ) (below : m < j).
      false_from_ne_true _ (λ yes.
      let clear = clear_at h (length file) i base (get_or fs m f) f (lies file base n) (kept_at m f (omega arith)) (rw is at (kept_at j f inside)) (rw is at (n.apart m j f below inside)) in
      let no = not_covered o (field_write h i base (get_or fs m f)) yes (field_write h i base f) clear in
      absurd cc) in
      find_first (λ g. covers o (field_write h i base g)) fs j f inside before (rw is here) ∙ ap Some is

  field_behind : (f : Fixup) (k o : ℕ) → IsFieldByte file f k o → ((head_of file).size_of_headers ≤ o) × (o < length file)
  field_behind f k o b =
      let w = where_at (head_of file) (length file) f (lies file base n) (rw b.fixup.2 at (kept_at b.fixup.0 f b.fixup.1)) in
      let place = w.place in
      let at = b.place in
      let small = b.small in
      let behind = w.data_behind in
      let fits = w.fits in
      let low = w.low in
      let high = w.high in
      (omega arith, omega arith)

  field_byte : (f : Fixup) (k o : ℕ) → IsFieldByte file f k o → byte_of (rebased_from (head_of file) file base) o ≡ digit (shifted (image_of_file 0 file) base f) k
  field_byte f k o b =
      let h = head_of file in
      let i = image_of_file 0 file in
      let r = field_behind f k o b in
      let free = free_behind h (length file) o (lies file base n) r.0 in
      let found = covering h file base (lies file base n) (kept file base n) o free ∙ ap (option_map (field_write h i base)) (field_found f k o b) in
      let place = b.place in
      byte_written (rebase_writes h i base) file o (field_write h i base f) r.1 found ∙ ap (digit (shifted i base f)) (omega arith)

  other_byte : (o : ℕ) → IsFree (head_of file) o → ((f : Fixup) (k : ℕ) → IsFieldByte file f k o → ⊥) → byte_of (rebased_from (head_of file) file base) o ≡ byte_of file o
  other_byte o free none =
      let h = head_of file in
      let i = image_of_file 0 file in
      let fs = fixups_of i in
      let never : find (λ g. covers o (field_write h i base g)) fs ≡ None = find_none (λ g. covers o (field_write h i base g)) fs (each_from (λ g. covers o (field_write h i base g) ≡ false) fs (λ j d lt.
      false_from_ne_true _ (λ yes.
      let f : Fixup = get_or fs j d in
      let p = range_parts (place_of h f) (width_of f.kind) o yes in
      let low = p.0 in
      let high = p.1 in
      none f (o - place_of h f) (record { fixup = (j, lt, get_or_default fs j f d lt); small = omega arith; place = omega arith })))) in
      byte_kept (rebase_writes h i base) file o (covering h file base (lies file base n) (kept file base n) o free ∙ ap (option_map (field_write h i base)) never)

  pub in_words : IsRebased file base (rebased_from (head_of file) file base)
  in_words = record {
    len = length-writes (rebase_writes (head_of file) (image_of_file 0 file) base) file;
    image_base = base_number file base n (head_of file).magic refl;
    check_sum = num_of_own_digits (byte_of (rebased_from (head_of file) file base)) (check_sum_place (head_of file)) 4 0 (omega arith) (sum_bytes file base n);
    fields = field_byte;
    others = other_byte;
  }
