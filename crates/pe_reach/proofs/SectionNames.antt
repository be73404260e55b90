-- The names of the sections of a file that begins with some bytes.
use Rattle.std.proofs.Common.{◌≡◌, ℕ, zero, suc, ◌+◌, ◌<◌, ◌≤◌, Bool, true, false, List, [], ◌∷◌, length, Option, None, Some, refl, sym, ◌∙◌, ap, ap₂, arith, get_or}
use Rattle.std.specs.Prelude.{◌==◌, ◌&&◌, ◌||◌, nat_le, if◌then◌else◌, map, option_map}
use Rattle.std.specs.List.{list_any}
use Rattle.std.specs.Option.{unwrap_or}
use Rattle.std.proofs.lemmas.Bool.{le-leb, lt-leb, true≢false}
use Rattle.std.proofs.lemmas.List.{get_or-take}
use Rattle.pe_view.specs.Number.{num, byte_of, part}
use Rattle.pe_view.specs.Text.{zero_ended}
use Rattle.pe_head.specs.declared.headers.Headers.{Headers}
use Rattle.pe_head.specs.declared.section.SectionHeader.{SectionHeader}
use Rattle.coff_read.specs.ImageNames.{image_strings, long_name, section_name, strings_start, strings_size}
use Rattle.coff_read.specs.Names.{begins_with_slash, name_offset, up_to_zero}
use Rattle.pe_reach.specs.Reach.{AgreeBefore, Begins}
use Rattle.pe_reach.specs.Views.{names_under}
use Rattle.pe_reach.proofs.Headers.{num_agrees, part_agrees}

-- ---- names that are not in the string table
no_offset : (b : ℕ) (bytes : List ℕ) → (suc b == 47) ≡ false → name_offset (suc b ∷ bytes) ≡ None
no_offset b bytes other = rw other refl

ended_offset : (b : ℕ) (bytes : List ℕ) (text : Option (List ℕ)) → (suc b == 47) ≡ false → name_offset (unwrap_or (option_map (λ text. suc b ∷ text) text) (suc b ∷ bytes)) ≡ None
ended_offset b bytes None other = no_offset b bytes other
ended_offset b bytes (Some text) other = no_offset b text other

short_offset : (field : List ℕ) → begins_with_slash field ≡ false → name_offset (up_to_zero field) ≡ None
short_offset [] other = refl
short_offset (zero ∷ bytes) other = refl
short_offset (suc b ∷ bytes) other = ended_offset b bytes (zero_ended bytes) other

no_long_name : (table : Option (List ℕ)) → long_name table None ≡ None
no_long_name None = refl
no_long_name (Some table) = refl

short_name : (table : Option (List ℕ)) (field : List ℕ) → begins_with_slash field ≡ false → section_name table field ≡ up_to_zero field
short_name table field other = rw (short_offset field other, no_long_name table) refl

neither : (a b : Bool) → (a || b) ≡ false → (a ≡ false) × (b ≡ false)
neither true b e = absurd (true≢false e)
neither false b e = (refl, e)

pub short_names : (s t : Option (List ℕ)) (sections : List SectionHeader) → list_any (λ section. begins_with_slash section.name) sections ≡ false
    → map (λ (section : SectionHeader). section_name s section.name) sections ≡ map (λ (section : SectionHeader). section_name t section.name) sections
short_names s t [] none = refl
short_names s t (section ∷ sections) none =
    let parts = neither (begins_with_slash section.name) (list_any (λ section. begins_with_slash section.name) sections) none in
    ap₂ (λ (x : List ℕ) (xs : List (List ℕ)). x ∷ xs) (short_name s section.name parts.0 ∙ sym (short_name t section.name parts.0)) (short_names s t sections parts.1)

-- ---- the string table
-- without one
pub no_table : (file : List ℕ) (h : Headers) → h.pointer_to_symbol_table ≡ 0 → image_strings file h ≡ None
no_table file h none = rw none refl

-- with one that is past the end of the file
chosen_none : {A : Type 0} (a b : Bool) (x : Option A) → b ≡ false → (if a then None else (if b then x else None)) ≡ None
chosen_none true b x e = refl
chosen_none false b x e = rw e refl

and_second : (a b : Bool) → a ≡ false → (a && b) ≡ false
and_second a b e = rw e refl

pub past_table : (file : List ℕ) (h : Headers) → length file < strings_start h + 4 → image_strings file h ≡ None
past_table file h past =
    chosen_none (h.pointer_to_symbol_table == 0) (nat_le (strings_start h + 4) (length file) && nat_le (strings_start h + strings_size file h) (length file)) (Some (part file (strings_start h) (strings_size file h)))
    (and_second (nat_le (strings_start h + 4) (length file)) (nat_le (strings_start h + strings_size file h) (length file)) (lt-leb (strings_start h + 4) (length file) past))

-- one whose end is past the end of the file
and_false : (a b : Bool) → b ≡ false → (a && b) ≡ false
and_false true b e = e
and_false false b e = refl

pub long_table : (file : List ℕ) (h : Headers) → length file < strings_start h + strings_size file h → image_strings file h ≡ None
long_table file h past =
    chosen_none (h.pointer_to_symbol_table == 0) (nat_le (strings_start h + 4) (length file) && nat_le (strings_start h + strings_size file h) (length file)) (Some (part file (strings_start h) (strings_size file h)))
    (and_false (nat_le (strings_start h + 4) (length file)) (nat_le (strings_start h + strings_size file h) (length file)) (lt-leb (strings_start h + strings_size file h) (length file) past))

module _ (len : ℕ) (bytes file : List ℕ) (fits : length bytes ≤ len) (b : Begins bytes len file) where
  agree : AgreeBefore (length bytes) file bytes
  agree = record {
    tails = omega (arith, b.size, fits);
    bytes = λ k lt. sym (get_or-take (length bytes) file k 0 lt) ∙ ap (λ (l : List ℕ). get_or l k 0) b.begins;
  }

  size_agrees : (h : Headers) → strings_start h + 4 ≤ length bytes → strings_size file h ≡ strings_size bytes h
  size_agrees h held = num_agrees (length bytes) (byte_of file) (byte_of bytes) agree.bytes (strings_start h) 4 held

  -- one that is among the bytes
  held_table : (h : Headers) → strings_start h + 4 ≤ length bytes → strings_start h + strings_size bytes h ≤ length bytes → image_strings file h ≡ image_strings bytes h
  held_table h held end =
      let size : strings_size file h ≡ strings_size bytes h = size_agrees h held in
      let table : part file (strings_start h) (strings_size file h) ≡ part bytes (strings_start h) (strings_size bytes h) =
      ap (λ n. part file (strings_start h) n) size ∙ part_agrees (length bytes) file bytes agree (strings_start h) (strings_size bytes h) end in
      let first : nat_le (strings_start h + 4) (length file) ≡ nat_le (strings_start h + 4) (length bytes) =
      le-leb (strings_start h + 4) (length file) (omega (arith, b.size, fits, held)) ∙ sym (le-leb (strings_start h + 4) (length bytes) held) in
      let second : nat_le (strings_start h + strings_size file h) (length file) ≡ nat_le (strings_start h + strings_size bytes h) (length bytes) =
      le-leb (strings_start h + strings_size file h) (length file) (omega (arith, b.size, fits, size, end)) ∙ sym (le-leb (strings_start h + strings_size bytes h) (length bytes) end) in
      λ i. if h.pointer_to_symbol_table == 0 then None else (if first i && second i then Some (table i) else None)

  same_names : (h : Headers) → image_strings file h ≡ image_strings bytes h → names_under file h ≡ names_under bytes h
  same_names h same = ap (λ (table : Option (List ℕ)). map (λ (section : SectionHeader). section_name table section.name) h.sections.items) same

  -- the names, by what is known of the string table
  pub names_without : (h : Headers) → h.pointer_to_symbol_table ≡ 0 → names_under file h ≡ names_under bytes h
  names_without h none = same_names h (no_table file h none ∙ sym (no_table bytes h none))

  pub names_past : (h : Headers) → len < strings_start h + 4 → names_under file h ≡ names_under bytes h
  names_past h past = same_names h (past_table file h (omega (arith, b.size, past)) ∙ sym (past_table bytes h (omega (arith, fits, past))))

  long_names : (h : Headers) → strings_start h + 4 ≤ length bytes → len < strings_start h + strings_size bytes h → names_under file h ≡ names_under bytes h
  long_names h held past =
      let size : strings_size file h ≡ strings_size bytes h = size_agrees h held in
      same_names h (long_table file h (omega (arith, b.size, size, past)) ∙ sym (long_table bytes h (omega (arith, fits, past))))

  pub names_long : (h : Headers) (start size : ℕ) → start ≡ strings_start h → size ≡ num (byte_of bytes) start 4 → start + 4 ≤ length bytes → len < start + size → names_under file h ≡ names_under bytes h
  names_long h start size at is held past =
      let sized : size ≡ strings_size bytes h = is ∙ ap (λ n. num (byte_of bytes) n 4) at in
      long_names h (omega (arith, at, held)) (omega (arith, at, sized, past))

  pub names_held : (h : Headers) (start size : ℕ) → start ≡ strings_start h → size ≡ num (byte_of bytes) start 4 → start + 4 ≤ length bytes → start + size ≤ length bytes → names_under file h ≡ names_under bytes h
  names_held h start size at is held end =
      let sized : size ≡ strings_size bytes h = is ∙ ap (λ n. num (byte_of bytes) n 4) at in
      same_names h (held_table h (omega (arith, at, held)) (omega (arith, at, sized, end)))
