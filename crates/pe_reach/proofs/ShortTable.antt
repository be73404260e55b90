-- A string table that begins as a longer one gives those sections the same names that are named by it.
use Rattle.std.proofs.Common.{◌≡◌, ℕ, zero, suc, ◌+◌, ◌-◌, ◌*◌, ◌<◌, ◌≤◌, Bool, true, false, List, [], ◌∷◌, ◌++◌, length, take, drop, get_or, Option, None, Some, Result, Ok, Err, refl, sym, ◌∙◌, ap, ap₂, arith}
use Rattle.std.specs.Prelude.{◌==◌, ◌&&◌, not, map, min, option_map, is_some, nat_lt, nat_le, IfOk, MatchResult, if◌then◌else◌}
use Rattle.std.specs.List.{list_all}
use Rattle.std.specs.Option.{unwrap_or}
use Rattle.std.proofs.lemmas.Bool.{and_parts, le-leb, ltb-false}
use Rattle.std.proofs.lemmas.List.{ext_get_or, get_or-take, get_or-drop, length-take, length-drop, take_all, take-append-drop, take-take, get_or-append-add}
use Rattle.std.proofs.Math.Seq.{take-append_seam}
use Rattle.pe_view.specs.Number.{num, byte_of, part}
use Rattle.pe_view.specs.Text.{zero_ended, text_between}
use Rattle.pe_head.specs.declared.headers.Headers.{Headers}
use Rattle.pe_head.specs.declared.section.SectionHeader.{SectionHeader}
use Rattle.coff_read.specs.ImageNames.{image_strings, section_name, long_name, strings_start, strings_size}
use Rattle.coff_read.specs.Names.{begins_with_slash, decimal_value, is_number_field, name_offset, up_to_zero}
use Rattle.pe_reach.specs.PartNames.{with_strings, is_named}
use Rattle.pe_reach.specs.Parts.{Stand}
use Rattle.pe_reach.specs.Views.{names_under}
use Rattle.pe_reach.proofs.StringTable.{some_table, part_len, num_stands}

-- a text that ends among the first bytes is the same with more behind it
is_mapped : (b : ℕ) (text : Option (List ℕ)) → is_some (option_map (λ t. suc b ∷ t) text) ≡ true → is_some text ≡ true
is_mapped b None is = is
is_mapped b (Some t) is = refl

zero_ended-more : (bytes more : List ℕ) → is_some (zero_ended bytes) ≡ true → zero_ended (bytes ++ more) ≡ zero_ended bytes
zero_ended-more [] more is = absurd cc
zero_ended-more (zero ∷ bytes) more is = refl
zero_ended-more (suc b ∷ bytes) more is = ap (option_map (λ t. suc b ∷ t)) (zero_ended-more bytes more (is_mapped b (zero_ended bytes) is))

text_whole : (table : List ℕ) (o : ℕ) → text_between table o (length table) ≡ zero_ended (drop o table)
text_whole table o = rw (le-leb (length table) (length table) (omega arith)) (ap zero_ended (take_all (length table - o) (drop o table) (omega (arith, length-drop o table))))

-- a field with an offset begins with a slash
by_slash : (b : Bool) (bytes : List ℕ) (o : ℕ) → (if b && is_number_field bytes then Some (decimal_value 0 (up_to_zero bytes)) else None) ≡ Some o → b ≡ true
by_slash true bytes o is = refl
by_slash false bytes o is = absurd cc

has_slash : (field : List ℕ) (o : ℕ) → name_offset field ≡ Some o → begins_with_slash field ≡ true
has_slash [] o is = absurd cc
has_slash (byte ∷ bytes) o is = by_slash (byte == 47) bytes o is

no_slash : (b : Bool) → b ≡ true → not b ≡ true → ⊥
no_slash true is named = absurd cc
no_slash false is named = absurd cc

module _ (short long : List ℕ) (le : length short ≤ length long) (same : (k : ℕ) → 4 ≤ k → k < length short → get_or short k 0 ≡ get_or long k 0) where
  front : (o : ℕ) → 4 ≤ o → take (length short - o) (drop o long) ≡ drop o short
  front o low =
      let sizes : length (take (length short - o) (drop o long)) ≡ length (drop o short) =
      length-take (length short - o) (drop o long) ∙ ap (min (length short - o)) (length-drop o long) ∙ (let e : min (length short - o) (length long - o) ≡ length short - o = omega (arith, le) in e) ∙ sym (length-drop o short) in
      ext_get_or 0 (take (length short - o) (drop o long)) (drop o short) sizes
      (λ k lt.
      let small : k < length short - o = omega (arith, lt, sizes, length-drop o short) in
      get_or-take (length short - o) (drop o long) k 0 small ∙ get_or-drop o long k 0
      ∙ sym (same (o + k) (omega (arith, low)) (omega (arith, small)))
      ∙ sym (get_or-drop o short k 0))

  same_text : (o : ℕ) → 4 ≤ o → is_some (text_between short o (length short)) ≡ true → text_between short o (length short) ≡ text_between long o (length long)
  same_text o low ends =
      let rest : List ℕ = drop (length short - o) (drop o long) in
      let whole : drop o short ++ rest ≡ drop o long = ap (λ (xs : List ℕ). xs ++ rest) (sym (front o low)) ∙ take-append-drop (length short - o) (drop o long) in
      text_whole short o
      ∙ sym (zero_ended-more (drop o short) rest (ap is_some (sym (text_whole short o)) ∙ ends))
      ∙ ap zero_ended whole
      ∙ sym (text_whole long o)

  text_by : (o : ℕ) (b : Bool) → nat_lt o 4 ≡ b → is_some (if b then None else text_between short o (length short)) ≡ true
      → (if b then None else text_between short o (length short)) ≡ (if b then None else text_between long o (length long))
  text_by o true is ends = refl
  text_by o false is ends = same_text o (ltb-false _ _ is) ends

  -- a name that is a string of the table, or no offset's
  name_by : (field : List ℕ) (o : Option ℕ) → name_offset field ≡ o → (text : Option (List ℕ)) → long_name (Some short) o ≡ text → not (begins_with_slash (unwrap_or text field)) ≡ true
      → unwrap_or text field ≡ unwrap_or (long_name (Some long) o) field
  name_by field None is None text named = refl
  name_by field None is (Some t) text named = absurd cc
  name_by field (Some o) is None text named = absurd (no_slash (begins_with_slash field) (has_slash field o is) named)
  name_by field (Some o) is (Some t) text named = ap (λ (n : Option (List ℕ)). unwrap_or n field) (sym text ∙ text_by o (nat_lt o 4) refl (ap is_some text))

  same_names : (ss : List SectionHeader) → list_all (is_named (Some short)) ss ≡ true
      → map (λ (s : SectionHeader). section_name (Some short) s.name) ss ≡ map (λ (s : SectionHeader). section_name (Some long) s.name) ss
  same_names [] all = refl
  same_names (s ∷ ss) all =
      let parts = and_parts (is_named (Some short) s) (list_all (is_named (Some short)) ss) all in
      ap₂ (λ (x : List ℕ) (xs : List (List ℕ)). x ∷ xs)
      (name_by (up_to_zero s.name) (name_offset (up_to_zero s.name)) refl (long_name (Some short) (name_offset (up_to_zero s.name))) refl parts.0) (same_names ss parts.1)

-- so does a table of the first strings of a file's, behind other bytes
module _ (file bytes : List ℕ) (h : Headers) (pointer count : ℕ) (some : 0 < h.pointer_to_symbol_table) (placed : 0 < pointer) (four : 4 ≤ count)
    (size : num (byte_of bytes) pointer 4 ≡ count) (held : length bytes ≡ pointer + count)
    (shorter : count ≤ strings_size file h) (fits : strings_start h + strings_size file h ≤ length file)
    (stand : Stand file bytes (strings_start h + 4) (pointer + 4) (count - 4)) where
  start_same : strings_start (with_strings h pointer) ≡ pointer
  start_same = omega arith

  size_same : strings_size bytes (with_strings h pointer) ≡ count
  size_same = ap (λ p. num (byte_of bytes) p 4) start_same ∙ size

  length_behind : length (drop pointer bytes) ≡ count
  length_behind = length-drop pointer bytes ∙ (let e : length bytes - pointer ≡ count = omega (arith, held) in e)

  short_table : image_strings bytes (with_strings h pointer) ≡ Some (drop pointer bytes)
  short_table =
      some_table bytes (with_strings h pointer) placed (omega (arith, start_same, held, four)) (omega (arith, start_same, size_same, held))
      ∙ ap Some (ap₂ (part bytes) start_same size_same ∙ take_all count (drop pointer bytes) (omega (arith, length_behind)))

  long_table : image_strings file h ≡ Some (part file (strings_start h) (strings_size file h))
  long_table = some_table file h some (omega (arith, fits, shorter, four)) fits

  byte_same : (k : ℕ) → 4 ≤ k → k < length (drop pointer bytes) → get_or (drop pointer bytes) k 0 ≡ get_or (part file (strings_start h) (strings_size file h)) k 0
  byte_same k low lt =
      let small : k - 4 < count - 4 = omega (arith, low, lt, length_behind) in
      let here : pointer + 4 + (k - 4) ≡ pointer + k = omega (arith, low) in
      let there : strings_start h + 4 + (k - 4) ≡ strings_start h + k = omega (arith, low) in
      get_or-drop pointer bytes k 0
      ∙ ap (λ n. get_or bytes n 0) (sym here) ∙ stand (k - 4) small ∙ ap (λ n. get_or file n 0) there
      ∙ sym (get_or-take (strings_size file h) (drop (strings_start h) file) k 0 (omega (arith, lt, length_behind, shorter)) ∙ get_or-drop (strings_start h) file k 0)

  pub short_names_same : list_all (is_named (image_strings bytes (with_strings h pointer))) h.sections.items ≡ true → names_under bytes (with_strings h pointer) ≡ names_under file h
  short_names_same ends =
      ap (λ (table : Option (List ℕ)). map (λ (section : SectionHeader). section_name table section.name) h.sections.items) short_table
      ∙ same_names (drop pointer bytes) (part file (strings_start h) (strings_size file h)) (omega (arith, length_behind, shorter, part_len file (strings_start h) (strings_size file h) fits)) byte_same h.sections.items (ap (λ (table : Option (List ℕ)). list_all (is_named table) h.sections.items) (sym short_table) ∙ ends)
      ∙ ap (λ (table : Option (List ℕ)). map (λ (section : SectionHeader). section_name table section.name) h.sections.items) (sym long_table)

-- a table that begins with the size of its own, behind other bytes
module _ (old mid new size : List ℕ) (start : ℕ) (len : length old ≡ start) (appended : mid ≡ old ++ size) (four : length size ≡ 4) (front : take (start + 4) new ≡ mid) where
  pub front_kept : take start new ≡ old
  front_kept =
      sym (take-take start (start + 4) new (omega arith)) ∙ ap (take start) (front ∙ appended)
      ∙ ap (λ n. take n (old ++ size)) (sym len) ∙ take-append_seam old size

  pub size_kept : num (byte_of new) start 4 ≡ num (byte_of size) 0 4
  size_kept = num_stands (byte_of new) (byte_of size) start 0 4 (λ k lt.
      let here : start + k ≡ length old + k = omega (arith, len) in
      sym (get_or-take (start + 4) new (start + k) 0 (omega (arith, lt))) ∙ ap (λ (l : List ℕ). get_or l (start + k) 0) (front ∙ appended)
      ∙ ap (λ n. get_or (old ++ size) n 0) here ∙ get_or-append-add old size k 0
      ∙ ap (λ n. get_or size n 0) (let e : k ≡ 0 + k = omega arith in e))

-- the string table depends on two fields of the headers
strings_by : List ℕ → ℕ → ℕ → Option (List ℕ)
strings_by bytes pointer symbols =
    if pointer == 0 then None
    else (if nat_le (pointer + 18 * symbols + 4) (length bytes) && nat_le (pointer + 18 * symbols + num (byte_of bytes) (pointer + 18 * symbols) 4) (length bytes)
    then Some (part bytes (pointer + 18 * symbols) (num (byte_of bytes) (pointer + 18 * symbols) 4))
    else None)

pub same_strings : (bytes : List ℕ) (g h : Headers) (pointer : ℕ) → g.pointer_to_symbol_table ≡ pointer → g.number_of_symbols ≡ 0 → image_strings bytes g ≡ image_strings bytes (with_strings h pointer)
unfolding strings_by
same_strings bytes g h pointer same none = ap₂ (strings_by bytes) same none

-- what follows for each result follows for one
pub match_more : {X E : Type 0} (P Q : X → Type 0) (F : E → Type 0) (r : Result X E) → ((x : X) → P x → Q x) → MatchResult r P F → MatchResult r Q F
match_more P Q F (Ok x) more m = more x m
match_more P Q F (Err e) more m = m

pub match_both : {X E : Type 0} (P Q : X → Type 0) (F G : E → Type 0) (r : Result X E) → ((x : X) → P x → Q x) → ((e : E) → F e → G e) → MatchResult r P F → MatchResult r Q G
match_both P Q F G (Ok x) more fails m = more x m
match_both P Q F G (Err e) more fails m = fails e m

pub if_ok_more : {X E : Type 0} (P Q : X → Type 0) (r : Result X E) → ((x : X) → P x → Q x) → IfOk r P → IfOk r Q
if_ok_more P Q (Ok x) more m = more x m
if_ok_more P Q (Err e) more m = tt
