-- Fields inside the raw data of a section.
use Rattle.std.proofs.Common.{◌≡◌, ℕ, ◌+◌, ◌-◌, ◌<◌, ◌≤◌, Bool, true, false, cond, List, [], ◌∷◌, length, get_or, Some, None, refl, ap, ◌∙◌, arith}
use Rattle.std.specs.Prelude.{min, ◌==◌, nat_le, nat_lt}
use Rattle.std.proofs.lemmas.Bool.{leb-true, and_from, and_parts, and_right, le-leb, le-ltb, lt-ltb}
use Rattle.pe_view.specs.Faults.{first_standing}
use Rattle.pe_view.specs.FirstStanding.{none_stands, none-append}
use Rattle.pe_head.specs.declared.section.SectionHeader.{SectionHeader}
use Rattle.pe_head.specs.declared.headers.Headers.{Headers}
use Rattle.pe_head.specs.Section.{rawlen, extent}
use Rattle.pe_layout.specs.Piece.{holds, end_of, section_of}
use Rattle.pe_tables.specs.Fixups.{width_of}
use Rattle.pe_tables.specs.declared.fixups.Fixup.{Fixup}
use Rattle.pe_tables.specs.declared.fixups.FixupKind.{FixupKind}
use Rattle.pe_tables.specs.declared.fixups.FixupKind.TheVariants.{Bits32, Bits64, High, Low}
use Rattle.pe_tables.specs.Relocated.{in_field}
use Rattle.pe_write.specs.Rebase.{keeps, raw_section, place_in, place_of}
use Rattle.pe_write.specs.RebaseFaults.{field_test, fields_tests}
use Rattle.pe_write.specs.Rewriting.{AreLaid}
use Rattle.pe_write.proofs.Lists.{Each, found, find_first, is_some_of, range_parts}
use Rattle.pe_write.proofs.Apart.{RawApart}

pub width_some : (kind : FixupKind) → 2 ≤ width_of kind
width_some High = omega arith
width_some Low = omega arith
width_some Bits32 = omega arith
width_some Bits64 = omega arith

cond_most : (b : Bool) (e r : ℕ) → cond b 0 (min e r) ≤ e
cond_most true e r = omega arith
cond_most false e r = omega arith

pub rawlen_most : (s : SectionHeader) → rawlen s ≤ extent s
rawlen_most s = cond_most (s.pointer_to_raw_data == 0) (extent s) s.size_of_raw_data

-- the section whose raw data contains a field
pub record Kept (h : Headers) (f : Fixup) : Type 0 where
  pub section : SectionHeader
  pub index : ℕ
  pub inside : index < length h.sections.items
  pub is : (d : SectionHeader) → get_or h.sections.items index d ≡ section
  pub raw : raw_section h f ≡ Some section
  pub low : section.virtual_address ≤ f.field
  pub high : f.field + width_of f.kind ≤ section.virtual_address + rawlen section

pub kept : (h : Headers) (f : Fixup) → (field_test h f).stands ≡ false → Kept h f
kept h f none =
    let some = is_some_of (raw_section h f) none in
    let at = found (keeps f.field (width_of f.kind)) h.sections.items some.0 some.1 in
    let parts = and_parts _ _ at.passes in
    record { section = some.0; index = at.place; inside = at.inside; is = at.is; raw = some.1; low = leb-true _ _ parts.0; high = leb-true _ _ parts.1 }

pub all_kept : (h : Headers) (fixups : List Fixup) → first_standing (fields_tests h fixups) ≡ None → Each (Kept h) fixups
unfolding fields_tests
all_kept h [] none = tt
all_kept h (f ∷ fs) none = (kept h f (none_stands (fields_tests h (f ∷ fs)) 0 _ none refl), all_kept h fs (none-append (field_test h f ∷ []) (fields_tests h fs) none).1)

-- facts that a rebase needs: the sections are disjoint in the image and in the file
pub record Lies (h : Headers) (n : ℕ) : Type 0 where
  pub held : h.size_of_headers ≤ n
  pub own : h.pe_offset + 24 + 68 ≤ h.size_of_headers
  pub laid : AreLaid h n
  pub apart : RawApart h [] h.sections.items

-- a field's file offset, and the section that contains it
pub record Where (h : Headers) (n : ℕ) (f : Fixup) (s : SectionHeader) : Type 0 where
  pub place : place_of h f ≡ s.pointer_to_raw_data + (f.field - s.virtual_address)
  pub some : 0 < rawlen s
  pub behind : h.size_of_headers ≤ s.virtual_address
  pub data_behind : h.size_of_headers ≤ s.pointer_to_raw_data
  pub fits : s.pointer_to_raw_data + rawlen s ≤ n
  pub low : s.virtual_address ≤ f.field
  pub high : f.field + width_of f.kind ≤ s.virtual_address + rawlen s
  pub wide : rawlen s ≤ extent s

pub where_at : (h : Headers) (n : ℕ) (f : Fixup) → Lies h n → (k : Kept h f) → Where h n f k.section
where_at h n f l k =
    let w = width_some f.kind in
    let low = k.low in
    let high = k.high in
    let some : 0 < rawlen k.section = omega arith in
    let same : get_or h.sections.items k.index k.section ≡ k.section = k.is k.section in
    record {
      place = ap (place_in f.field) k.raw;
      some = some;
      behind = rw same at (l.laid.behind k.index k.section k.inside);
      data_behind = rw same at (l.apart.starts k.index k.section k.inside (rw same some));
      fits = (rw same at (l.laid.held k.index k.section k.inside)) some;
      low = low;
      high = high;
      wide = rawlen_most k.section;
    }

ends_first : (r : ℕ) (s : SectionHeader) → end_of s ≤ r → holds r s ≡ false
ends_first r s le = let test : nat_lt r (end_of s) ≡ false = le-ltb _ _ le in rw test (and_right (nat_le s.virtual_address r) false refl)

-- the section that contains an RVA
pub section_found : (h : Headers) (n : ℕ) → AreLaid h n → (r k : ℕ) (s : SectionHeader) → k < length h.sections.items → get_or h.sections.items k s ≡ s → s.virtual_address ≤ r → r < end_of s → section_of h r ≡ Some s
section_found h n laid r k s lt is low high =
    find_first (holds r) h.sections.items k s lt
    (λ j below. ends_first r (get_or h.sections.items j s) (let a = rw is at (laid.apart j k s below lt) in omega arith))
    (rw is (and_from _ _ (le-leb _ _ low) (lt-ltb _ _ high)))
    ∙ ap Some is

-- a section that contains a byte of a field contains all of it
pub holder : (h : Headers) (n r : ℕ) (f : Fixup) → Lies h n → (k : Kept h f) → in_field r f ≡ true → section_of h r ≡ Some k.section
holder h n r f l k is =
    let p = range_parts f.field (width_of f.kind) r is in
    let w = where_at h n f l k in
    let low : k.section.virtual_address ≤ r = (let a = w.low in let b = p.0 in omega arith) in
    let high : r < end_of k.section = (let a = w.high in let b = p.1 in let c = w.wide in omega arith) in
    section_found h n l.laid r k.index k.section k.inside (k.is k.section) low high
