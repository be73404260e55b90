-- The string table of a file among parts of it.
use Rattle.std.proofs.Common.{◌≡◌, ℕ, zero, suc, ◌+◌, ◌-◌, ◌*◌, ◌<◌, ◌≤◌, List, length, Option, None, Some, refl, sym, ◌∙◌, ap, ap₂, arith, drop, get_or}
use Rattle.std.specs.Prelude.{map, min, take}
use Rattle.std.specs.declared.vec.Vec.{Vec}
use Rattle.std.proofs.lemmas.Bool.{le-leb, ne_eqb}
use Rattle.std.proofs.lemmas.List.{ext_get_or, length-take, length-drop, get_or-take, get_or-drop}
use Rattle.pe_view.specs.Number.{num, byte_of, part}
use Rattle.pe_head.specs.declared.headers.Headers.{Headers}
use Rattle.pe_head.specs.declared.section.SectionHeader.{SectionHeader}
use Rattle.coff_read.specs.ImageNames.{image_strings, section_name, strings_start, strings_size}
use Rattle.pe_reach.specs.PartNames.{with_strings}
use Rattle.pe_reach.specs.PartsRead.{AreOf, AddNames}
use Rattle.pe_reach.specs.Views.{names_under}
use Rattle.pe_reach.specs.declared.parts_reading.Parts.{Parts}
use Rattle.pe_reach.specs.Parts.{Stand}
use Rattle.pe_reach.proofs.PartBytes.{all_held_on}

-- a number whose bytes stand at another place
pub num_stands : (f g : ℕ → ℕ) (p q n : ℕ) → ((k : ℕ) → k < n → f (p + k) ≡ g (q + k)) → num f p n ≡ num g q n
num_stands f g p q zero same = refl
num_stands f g p q (suc n) same =
    let p0 : p ≡ p + 0 = omega arith in
    let q0 : q + 0 ≡ q = omega arith in
    ap₂ (λ (x y : ℕ). x + 256 * y) (ap f p0 ∙ same 0 (omega arith) ∙ ap g q0)
    (num_stands f g (p + 1) (q + 1) n (λ k lt.
    let pk : p + 1 + k ≡ p + (k + 1) = omega arith in
    let qk : q + (k + 1) ≡ q + 1 + k = omega arith in
    ap f pk ∙ same (k + 1) (omega (arith, lt)) ∙ ap g qk))

room : (n offset len : ℕ) → offset + len ≤ n → min len (n - offset) ≡ len
room n offset len le = omega arith

pub part_len : (bytes : List ℕ) (offset len : ℕ) → offset + len ≤ length bytes → length (part bytes offset len) ≡ len
part_len bytes offset len le = length-take len (drop offset bytes) ∙ ap (min len) (length-drop offset bytes) ∙ room (length bytes) offset len le

-- the same of any bytes
pub part_stands : (file bytes : List ℕ) (offset start len : ℕ) → Stand file bytes offset start len → offset + len ≤ length file → start + len ≤ length bytes → part bytes start len ≡ part file offset len
part_stands file bytes offset start len stand fits held =
    ext_get_or 0 (part bytes start len) (part file offset len)
    (part_len bytes start len held ∙ sym (part_len file offset len fits))
    (λ k lt.
    let small : k < len = omega (arith, part_len bytes start len held, lt) in
    get_or-take len (drop start bytes) k 0 small ∙ get_or-drop start bytes k 0
    ∙ stand k small
    ∙ sym (get_or-take len (drop offset file) k 0 small ∙ get_or-drop offset file k 0))

-- the string table, if it is inside the file
pub some_table : (file : List ℕ) (h : Headers) → 0 < h.pointer_to_symbol_table → strings_start h + 4 ≤ length file → strings_start h + strings_size file h ≤ length file
    → image_strings file h ≡ Some (part file (strings_start h) (strings_size file h))
some_table file h some first last =
    rw (ne_eqb h.pointer_to_symbol_table 0 (λ e. omega (arith, e, some)), le-leb (strings_start h + 4) (length file) first, le-leb (strings_start h + strings_size file h) (length file) last) refl

module _ (file bytes : List ℕ) (h : Headers) (pointer size count : ℕ) (some : 0 < h.pointer_to_symbol_table) (placed : 0 < pointer) (four : 4 ≤ count) (all : size ≤ count)
    (is : num (byte_of file) (strings_start h) 4 ≡ size) (fits : strings_start h + count ≤ length file) (held : pointer + count ≤ length bytes) (stand : Stand file bytes (strings_start h) pointer count) where
  start_same : strings_start (with_strings h pointer) ≡ pointer
  start_same = omega arith

  size_same : strings_size bytes (with_strings h pointer) ≡ size
  size_same = ap (λ p. num (byte_of bytes) p 4) start_same
      ∙ num_stands (byte_of bytes) (byte_of file) pointer (strings_start h) 4 (λ k lt. stand k (omega (arith, lt, four))) ∙ is

  table_same : image_strings bytes (with_strings h pointer) ≡ image_strings file h
  table_same =
      some_table bytes (with_strings h pointer) placed (omega (arith, start_same, held, four)) (omega (arith, start_same, size_same, held, all))
      ∙ ap Some (ap₂ (part bytes) start_same size_same ∙ part_stands file bytes (strings_start h) pointer size (λ k lt. stand k (omega (arith, lt, all))) (omega (arith, fits, all)) (omega (arith, held, all)) ∙ ap (part file (strings_start h)) (sym is))
      ∙ sym (some_table file h some (omega (arith, fits, four)) (omega (arith, fits, all, is)))

  -- so the names of sections are the same
  pub names_same : names_under bytes (with_strings h pointer) ≡ names_under file h
  names_same = ap (λ (table : Option (List ℕ)). map (λ (section : SectionHeader). section_name table section.name) h.sections.items) table_same

-- without a string table
pub names_absent : (file bytes : List ℕ) (h : Headers) → image_strings file h ≡ None → names_under bytes (with_strings h 0) ≡ names_under file h
names_absent file bytes h none = ap (λ (table : Option (List ℕ)). map (λ (section : SectionHeader). section_name table section.name) h.sections.items) (sym none)

-- parts with a string table behind them
module _ {A : Type 0} (old : Parts A) (bytes : Vec ℕ A) (pointer : ℕ) (file : List ℕ) (le : length old.bytes.items ≤ length bytes.items) (front : take (length old.bytes.items) bytes.items ≡ old.bytes.items) where
  abbrev named : Parts A
  named = record old { packed = with_strings old.packed pointer; bytes = bytes }

  same_byte : AreOf old file → (r : ℕ) → r < old.headers.size_of_headers → byte_of bytes.items r ≡ byte_of file r
  same_byte are r lt =
      let covers = are.covers in
      sym (get_or-take (length old.bytes.items) bytes.items r 0 (omega (arith, covers, lt))) ∙ ap (λ (l : List ℕ). get_or l r 0) front ∙ are.packed.bytes r lt

  named_parts : AreOf old file → AreOf named file
  named_parts are = record {
    headers = are.headers;
    sound = are.sound;
    packed = record {
      headers = ap (λ (p : Headers). with_strings p pointer) are.packed.headers;
      bytes = same_byte are;
      sections = all_held_on file old.bytes.items bytes.items old.headers.sections.items old.packed.sections.items front le are.packed.sections;
    };
    covers = let covers = are.covers in omega (arith, covers, le);
  }

  pub add_names : names_under bytes.items (with_strings old.headers pointer) ≡ names_under file old.headers → AddNames old named file
  add_names same = record { parts = named_parts; names = λ are. same ∙ ap (names_under file) (sym are.headers) }
