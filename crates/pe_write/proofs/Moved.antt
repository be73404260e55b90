-- The laid-out image of a rebased file.
use Rattle.std.proofs.Common.{◌≡◌, ℕ, ◌+◌, ◌-◌, ◌<◌, ◌≤◌, true, false, List, length, get_or, Option, Some, None, refl, sym, ap, ◌∙◌, inl, inr, arith}
use Rattle.std.specs.Prelude.{find, nat_lt, nat_le, option_map}
use Rattle.std.proofs.Common.{subst}
use Rattle.std.proofs.lemmas.Bool.{cases_lt, cases_order, lt-ltb, le-ltb, leb-true, and_parts, false_from_ne_true}
use Rattle.std.proofs.lemmas.Option.{same_Some, none-some}
use Rattle.pe_view.specs.Number.{byte_of, digit, is_in}
use Rattle.pe_head.specs.Optional.{image_base_offset, image_base_width}
use Rattle.pe_head.specs.declared.optional.Magic.{Magic}
use Rattle.pe_head.specs.declared.optional.Magic.TheVariants.{Pe32, Pe32Plus}
use Rattle.pe_head.specs.declared.section.SectionHeader.{SectionHeader}
use Rattle.pe_head.specs.declared.headers.Headers.{Headers}
use Rattle.pe_head.specs.Section.{rawlen}
use Rattle.pe_layout.specs.Image.{image_from}
use Rattle.pe_layout.specs.Piece.{holds, end_of, section_of}
use Rattle.pe_layout.specs.Plain.{plain, section_byte}
use Rattle.pe_tables.specs.Fixups.{width_of, fixups_of}
use Rattle.pe_tables.specs.declared.fixups.Fixup.{Fixup}
use Rattle.pe_tables.specs.Relocated.{in_field, shifted, relocated, relocated_by}
use Rattle.pe_write.proofs.Writes.{Write, covers}
use Rattle.pe_write.specs.Rebase.{IsFree, place_of, image_base_place, check_sum_place}
use Rattle.pe_write.proofs.Writes.{field_write, rebase_writes, rebased_from}
use Rattle.pe_write.proofs.Lists.{Each, each_map, each_found, found, find_none, find_same, find-map, same_bool, in_range, range_parts, below_range, above_range, some_or_none}
use Rattle.pe_write.proofs.Bytes.{byte_kept, byte_written}
use Rattle.pe_write.proofs.Kept.{Kept, Lies, Where, where_at, holder}

pub image_base_ends : (m : Magic) → image_base_offset m + image_base_width m ≤ 68
image_base_ends Pe32 = omega arith
image_base_ends Pe32Plus = omega arith

-- the byte at an RVA after the headers
pub plain-behind : (h : Headers) (file : List ℕ) (r : ℕ) (s : Option SectionHeader) → h.size_of_headers ≤ r → section_of h r ≡ s → plain h file r ≡ section_byte file r s
plain-behind h file r s le is =
    let test : nat_lt r h.size_of_headers ≡ false = le-ltb _ _ le in
    rw (test, is) refl

-- what is after the headers is free
pub free_behind : (h : Headers) (n o : ℕ) → Lies h n → h.size_of_headers ≤ o → IsFree h o
free_behind h n o l le =
    let own = l.own in
    let ends = image_base_ends h.magic in
    record {
      image_base = above_range (image_base_place h) (image_base_width h.magic) o (omega arith);
      check_sum = above_range (check_sum_place h) 4 o (omega arith);
    }

module _ (h : Headers) (file : List ℕ) (base : ℕ) (l : Lies h (length file)) (kept : Each (Kept h) (fixups_of (image_from 0 h file))) where
  fields : ℕ → Fixup → Write
  fields b f = field_write h (image_from 0 h file) b f

  -- the writes that cover a free offset are those of fields
  pub covering : (o : ℕ) → IsFree h o → find (covers o) (rebase_writes h (image_from 0 h file) base) ≡ option_map (field_write h (image_from 0 h file) base) (find (λ f. covers o (field_write h (image_from 0 h file) base f)) (fixups_of (image_from 0 h file)))
  covering o free = rw (free.image_base, free.check_sum) (find-map (field_write h (image_from 0 h file) base) (covers o) (fixups_of (image_from 0 h file)))

  headers_free : (o : ℕ) → o < h.size_of_headers → find (λ f. covers o (field_write h (image_from 0 h file) base f)) (fixups_of (image_from 0 h file)) ≡ None
  headers_free o lt = find_none _ _ (each_map (Kept h) (λ f. covers o (field_write h (image_from 0 h file) base f) ≡ false) (fixups_of (image_from 0 h file))
      (λ f k. let w = where_at h (length file) f l k in let e = w.place in let b = w.data_behind in below_range (place_of h f) (width_of f.kind) o (omega arith)) kept)

  no_field : (r : ℕ) → r < h.size_of_headers → find (in_field r) (fixups_of (image_from 0 h file)) ≡ None
  no_field r lt = find_none _ _ (each_map (Kept h) (λ f. in_field r f ≡ false) (fixups_of (image_from 0 h file))
      (λ f k. let w = where_at h (length file) f l k in let a = w.low in let b = w.behind in below_range f.field (width_of f.kind) r (omega arith)) kept)

  -- a free byte of the headers is unchanged
  pub header_kept : (o : ℕ) → o < h.size_of_headers → IsFree h o → byte_of (rebased_from h file base) o ≡ byte_of file o
  header_kept o lt free = byte_kept (rebase_writes h (image_from 0 h file) base) file o (covering o free ∙ ap (option_map (field_write h (image_from 0 h file) base)) (headers_free o lt))

-- a byte of a section's raw data: at r in the image, at o in the file
record Raw (h : Headers) (n r o : ℕ) (s : SectionHeader) : Type 0 where
  index : ℕ
  inside : index < length h.sections.items
  is : (d : SectionHeader) → get_or h.sections.items index d ≡ s
  section : section_of h r ≡ Some s
  low : s.virtual_address ≤ r
  raw : r - s.virtual_address < rawlen s
  place : o ≡ s.pointer_to_raw_data + (r - s.virtual_address)
  held : o < n
  behind : h.size_of_headers ≤ o

raw_at : (h : Headers) (n r : ℕ) (s : SectionHeader) → Lies h n → section_of h r ≡ Some s → r - s.virtual_address < rawlen s → Raw h n r (s.pointer_to_raw_data + (r - s.virtual_address)) s
raw_at h n r s l is lt =
    let at = found (holds r) h.sections.items s is in
    let parts = and_parts (nat_le s.virtual_address r) (nat_lt r (end_of s)) at.passes in
    let same : get_or h.sections.items at.place s ≡ s = at.is s in
    let some : 0 < rawlen s = omega arith in
    let fits : s.pointer_to_raw_data + rawlen s ≤ n = (rw same at (l.laid.held at.place s at.inside)) some in
    let starts : h.size_of_headers ≤ s.pointer_to_raw_data = rw same at (l.apart.starts at.place s at.inside (rw same some)) in
    record { index = at.place; inside = at.inside; is = at.is; section = is; low = leb-true _ _ parts.0; raw = lt; place = refl; held = omega arith; behind = omega arith }

-- sections with a byte of raw data in common are one section
same_section : (h : Headers) (n r o : ℕ) (f : Fixup) (s : SectionHeader) → Lies h n → Raw h n r o s → (k : Kept h f) → covers o (record { offset = place_of h f; width = width_of f.kind; value = 0 }) ≡ true → k.section ≡ s
same_section h n r o f s l q k is =
    let p = range_parts (place_of h f) (width_of f.kind) o is in
    let w = where_at h n f l k in
    let t = k.section in
    let place = w.place in
    let low = w.low in
    let high = w.high in
    let here = q.place in
    let raw = q.raw in
    let some : 0 < rawlen s = omega arith in
    let start : t.pointer_to_raw_data ≤ o = (let a = p.0 in omega arith) in
    let end : o < t.pointer_to_raw_data + rawlen t = (let a = p.1 in omega arith) in
    elim (cases_order k.index q.index) [
      | inl e ↦ sym (k.is s) ∙ ap (λ (j : ℕ). get_or h.sections.items j s) e ∙ q.is s
      | inr other ↦ elim other [
        | inl below ↦ (let a = (rw (k.is s, q.is s) at (l.apart.apart k.index q.index s below q.inside)).apart w.some some in absurd (elim a [ inl x ↦ omega arith | inr y ↦ omega arith ]))
        | inr above ↦ (let a = (rw (q.is s, k.is s) at (l.apart.apart q.index k.index s above k.inside)).apart some w.some in absurd (elim a [ inl x ↦ omega arith | inr y ↦ omega arith ]))
      ]
    ]

into_field : (h : Headers) (n r o : ℕ) (f : Fixup) (s : SectionHeader) → Where h n f s → Raw h n r o s → covers o (record { offset = place_of h f; width = width_of f.kind; value = 0 }) ≡ true → in_field r f ≡ true
into_field h n r o f s w q is =
    let p = range_parts (place_of h f) (width_of f.kind) o is in
    let place = w.place in
    let low = w.low in
    let here = q.place in
    let start = q.low in
    in_range f.field (width_of f.kind) r (let a = p.0 in omega arith) (let a = p.1 in omega arith)

from_field : (h : Headers) (n r o : ℕ) (f : Fixup) (s : SectionHeader) → Where h n f s → Raw h n r o s → in_field r f ≡ true → (covers o (record { offset = place_of h f; width = width_of f.kind; value = 0 }) ≡ true) × (o - place_of h f ≡ r - f.field)
from_field h n r o f s w q is =
    let p = range_parts f.field (width_of f.kind) r is in
    let place = w.place in
    let low = w.low in
    let here = q.place in
    let start = q.low in
    (in_range (place_of h f) (width_of f.kind) o (let a = p.0 in omega arith) (let a = p.1 in omega arith), (let a = p.0 in omega arith))

where_in : (h : Headers) (n : ℕ) (f : Fixup) (s : SectionHeader) → Lies h n → (k : Kept h f) → k.section ≡ s → Where h n f s
where_in h n f s l k e = subst (Where h n f) e (where_at h n f l k)

-- a write of a field covers a byte of the file exactly if the field has that byte of the image
covers_field : (h : Headers) (n r o : ℕ) (f : Fixup) (s : SectionHeader) → Lies h n → Raw h n r o s → Kept h f → is_in (place_of h f) (width_of f.kind) o ≡ in_field r f
covers_field h n r o f s l q k =
    same_bool _ _ (λ is. into_field h n r o f s (where_in h n f s l k (same_section h n r o f s l q k is)) q is)
    (λ is. (from_field h n r o f s (where_in h n f s l k (same_Some k.section s (sym (holder h n r f l k is) ∙ q.section))) q is).0)

place_in_field : (h : Headers) (n r o : ℕ) (f : Fixup) (s : SectionHeader) → Lies h n → Raw h n r o s → Kept h f → in_field r f ≡ true → o - place_of h f ≡ r - f.field
place_in_field h n r o f s l q k is = (from_field h n r o f s (where_in h n f s l k (same_Some k.section s (sym (holder h n r f l k is) ∙ q.section))) q is).1

module _ (h : Headers) (file : List ℕ) (base : ℕ) (l : Lies h (length file)) (kept : Each (Kept h) (fixups_of (image_from 0 h file))) where
  -- no field covers a place without raw data
  unheld : (r : ℕ) → ((f : Fixup) → (k : Kept h f) → in_field r f ≡ true → ⊥) → find (in_field r) (fixups_of (image_from 0 h file)) ≡ None
  unheld r never = find_none _ _ (each_map (Kept h) (λ f. in_field r f ≡ false) (fixups_of (image_from 0 h file)) (λ f k. false_from_ne_true _ (never f k)) kept)

  still : (r byte : ℕ) → find (in_field r) (fixups_of (image_from 0 h file)) ≡ None → plain h file r ≡ byte → relocated (image_from 0 h file) base r ≡ byte
  still r byte none e = ap (relocated_by (image_from 0 h file) base r) none ∙ e

  in_header : (r : ℕ) → IsFree h r → r < h.size_of_headers → plain h (rebased_from h file base) r ≡ relocated (image_from 0 h file) base r
  in_header r free lt =
      let test : nat_lt r h.size_of_headers ≡ true = lt-ltb _ _ lt in
      let here : plain h (rebased_from h file base) r ≡ byte_of (rebased_from h file base) r = rw test refl in
      let there : plain h file r ≡ byte_of file r = rw test refl in
      here ∙ header_kept h file base l kept r lt free ∙ sym (still r (byte_of file r) (no_field h file base l kept r lt) there)

  in_gap : (r : ℕ) → h.size_of_headers ≤ r → section_of h r ≡ None → plain h (rebased_from h file base) r ≡ relocated (image_from 0 h file) base r
  in_gap r le none =
      plain-behind h (rebased_from h file base) r None le none
      ∙ sym (still r 0 (unheld r (λ f k is. none-some k.section (sym none ∙ holder h (length file) r f l k is))) (plain-behind h file r None le none))

  in_zeros : (r : ℕ) (s : SectionHeader) → h.size_of_headers ≤ r → section_of h r ≡ Some s → rawlen s ≤ r - s.virtual_address → plain h (rebased_from h file base) r ≡ relocated (image_from 0 h file) base r
  in_zeros r s le some past =
      let test : nat_lt (r - s.virtual_address) (rawlen s) ≡ false = le-ltb _ _ past in
      let zero_of = λ (bytes : List ℕ). let e : section_byte bytes r (Some s) ≡ 0 = rw test refl in plain-behind h bytes r (Some s) le some ∙ e in
      let never = λ (f : Fixup) (k : Kept h f) (is : in_field r f ≡ true).
      let same : k.section ≡ s = same_Some k.section s (sym (holder h (length file) r f l k is) ∙ some) in
      let w = where_in h (length file) f s l k same in
      let p = range_parts f.field (width_of f.kind) r is in
      let low = w.low in
      let high = w.high in
      let end = p.1 in
      let start = p.0 in
      let no : ⊥ = omega arith in no in
      zero_of (rebased_from h file base) ∙ sym (still r 0 (unheld r never) (zero_of file))

  covering_at : (r o : ℕ) (s : SectionHeader) → Raw h (length file) r o s → find (λ f. covers o (field_write h (image_from 0 h file) base f)) (fixups_of (image_from 0 h file)) ≡ find (in_field r) (fixups_of (image_from 0 h file))
  covering_at r o s q = find_same _ _ _ (each_map (Kept h) (λ f. covers o (field_write h (image_from 0 h file) base f) ≡ in_field r f) (fixups_of (image_from 0 h file)) (λ f k. covers_field h (length file) r o f s l q k) kept)

  in_data : (r o : ℕ) (s : SectionHeader) → h.size_of_headers ≤ r → Raw h (length file) r o s → plain h (rebased_from h file base) r ≡ relocated (image_from 0 h file) base r
  in_data r o s le q =
      let i = image_from 0 h file in
      let test : nat_lt (r - s.virtual_address) (rawlen s) ≡ true = lt-ltb _ _ q.raw in
      let byte = λ (bytes : List ℕ). let e : section_byte bytes r (Some s) ≡ byte_of bytes (s.pointer_to_raw_data + (r - s.virtual_address)) = rw test refl in plain-behind h bytes r (Some s) le q.section ∙ e ∙ ap (byte_of bytes) (sym q.place) in
      let free = free_behind h (length file) o l q.behind in
      let all = covering h file base l kept o free ∙ ap (option_map (field_write h i base)) (covering_at r o s q) in
      elim (some_or_none (find (in_field r) (fixups_of i))) [
        | inl none ↦ byte (rebased_from h file base) ∙ byte_kept (rebase_writes h i base) file o (all ∙ ap (option_map (field_write h i base)) none) ∙ sym (still r (byte_of file o) none (byte file))
        | inr some ↦
            let f = some.0 in
            let k = each_found (Kept h) (in_field r) (fixups_of i) f kept some.1 in
            let is = (found (in_field r) (fixups_of i) f some.1).passes in
            byte (rebased_from h file base)
            ∙ byte_written (rebase_writes h i base) file o (field_write h i base f) q.held (all ∙ ap (option_map (field_write h i base)) some.1)
            ∙ ap (digit (shifted i base f)) (place_in_field h (length file) r o f s l q k is)
            ∙ sym (ap (relocated_by i base r) some.1)
      ]

  behind_headers : (r : ℕ) → h.size_of_headers ≤ r → plain h (rebased_from h file base) r ≡ relocated (image_from 0 h file) base r
  behind_headers r le = elim (some_or_none (section_of h r)) [
    | inl none ↦ in_gap r le none
    | inr some ↦ elim (cases_lt (r - some.0.virtual_address) (rawlen some.0)) [
      | inl raw ↦ in_data r (some.0.pointer_to_raw_data + (r - some.0.virtual_address)) some.0 le (raw_at h (length file) r some.0 l some.1 raw)
      | inr past ↦ in_zeros r some.0 le some.1 past
    ]
  ]

  -- the laid-out image of the new file is the old one relocated to the base
  pub plain-rebased : (r : ℕ) → IsFree h r → plain h (rebased_from h file base) r ≡ relocated (image_from 0 h file) base r
  plain-rebased r free = elim (cases_lt r h.size_of_headers) [
    | inl lt ↦ in_header r free lt
    | inr le ↦ behind_headers r le
  ]
