-- A string of a string table is at its offset, with a zero byte after it.
use Rattle.std.proofs.Common.{◌≡◌, ◌∙◌, ℕ, zero, suc, ◌+◌, ◌-◌, Bool, false, cond, List, [], ◌∷◌, ◌++◌, length, take, drop, Option, Some, None, refl, sym, ap, length-append, append_assoc, arith, inl, inr}
use Rattle.std.specs.Prelude.{◌↔◌, nat_lt, nat_le, option_map, slice_range, ◌==◌}
use Rattle.std.specs.List.{list_any}
use Rattle.std.proofs.lemmas.Bool.{cases_Bool, or_parts, ltb-false, leb-true, le-leb, le-ltb, or_from, ne_eqb}
use Rattle.std.proofs.lemmas.List.{take_at, take-append-drop, length-take}
use Rattle.std.proofs.Math.Seq.{take-add}
use Rattle.pe_view.specs.Text.{zero_ended, text_between}
use Rattle.coff_read.specs.StringPlaces.{IsString}
use Rattle.coff_read.specs.Strings.{string_at, strings_start, strings_size}

-- a string has a zero byte
abbrev has_zero : List ℕ → Bool
has_zero text = list_any (λ byte. byte == 0) text

-- a string without a zero byte ends at the zero byte after it
pub zero_ended-behind : (text rest : List ℕ) → has_zero text ≡ false → zero_ended (text ++ 0 ∷ rest) ≡ Some text
zero_ended-behind [] rest none = refl
zero_ended-behind (zero ∷ text) rest none = absurd cc
zero_ended-behind (suc b ∷ text) rest none =
    let later : has_zero text ≡ false = (or_parts (suc b == 0) (has_zero text) none).1 in
    rw (zero_ended-behind text rest later) refl

record Ended (bytes text : List ℕ) : Type 0 where
  rest : List ℕ
  is : bytes ≡ text ++ 0 ∷ rest
  none : has_zero text ≡ false

ended_more : (b : ℕ) (bytes text : List ℕ) (o : Option (List ℕ)) → ((t : List ℕ) → o ≡ Some t → Ended bytes t) → option_map (λ t. suc b ∷ t) o ≡ Some text → Ended (suc b ∷ bytes) text
ended_more b bytes text None more is = absurd cc
ended_more b bytes text (Some t) more is =
    let e = more t refl in
    let head : suc b ∷ t ≡ text = cc in
    let whole : suc b ∷ bytes ≡ (suc b ∷ t) ++ 0 ∷ e.rest = ap (λ (bs : List ℕ). suc b ∷ bs) e.is in
    record { rest = e.rest; is = whole ∙ ap (λ (bs : List ℕ). bs ++ 0 ∷ e.rest) head; none = sym (ap has_zero head) ∙ or_from (suc b == 0) (has_zero t) (ne_eqb (suc b) 0 (λ h. omega arith)) e.none }

ended : (bytes text : List ℕ) → zero_ended bytes ≡ Some text → Ended bytes text
ended [] text is = absurd cc
ended (zero ∷ bytes) text is =
    let empty : [] ≡ text = cc in
    record { rest = bytes; is = ap (λ (t : List ℕ). t ++ 0 ∷ bytes) empty; none = sym (ap has_zero empty) }
ended (suc b ∷ bytes) text is = ended_more b bytes text (zero_ended bytes) (λ t e. ended bytes t e) is

-- bytes that begin with others, also if they are cut after them
begins : (front back bytes : List ℕ) (m : ℕ) → take m bytes ≡ front ++ back → take (length front) bytes ≡ front
begins front back bytes m is =
    let whole : bytes ≡ front ++ (back ++ drop m bytes) = sym (take-append-drop m bytes) ∙ ap (λ (bs : List ℕ). bs ++ drop m bytes) is ∙ append_assoc front back (drop m bytes) in
    ap (take (length front)) whole ∙ take_at front (back ++ drop m bytes) (length front) refl

string_stands : (file : List ℕ) (offset : ℕ) (text : List ℕ) → string_at file offset ≡ Some text → IsString file offset text
string_stands file offset text is = elim (cases_Bool (nat_lt offset 4)) [
  | inl low ↦ (let none : None ≡ Some text = sym (ap (λ (b : Bool). cond b None (text_between file (strings_start file + offset) (strings_start file + strings_size file))) low) ∙ is in absurd cc)
  | inr high ↦
      (let at : ℕ = strings_start file + offset in
      let end : ℕ = strings_start file + strings_size file in
      let found : text_between file at end ≡ Some text = sym (ap (λ (b : Bool). cond b None (text_between file at end)) high) ∙ is in
      elim (cases_Bool (nat_le end (length file))) [
        | inl inside ↦
            (let stops : zero_ended (slice_range file at end) ≡ Some text = sym (ap (λ (b : Bool). cond b (zero_ended (slice_range file at end)) None) inside) ∙ found in
            let e = ended (slice_range file at end) text stops in
            let split : take (end - at) (drop at file) ≡ (text ++ 0 ∷ []) ++ e.rest = e.is ∙ sym (append_assoc text (0 ∷ []) e.rest) in
            let one : length (text ++ 0 ∷ []) ≡ length text + 1 = length-append text (0 ∷ []) in
            let both : length ((text ++ 0 ∷ []) ++ e.rest) ≡ length (text ++ 0 ∷ []) + length e.rest = length-append (text ++ 0 ∷ []) e.rest in
            let taken = length-take (end - at) (drop at file) in
            let same = ap (λ (bs : List ℕ). length bs) split in
            let ge = ltb-false offset 4 high in
            record {
              behind_size = ge;
              bytes = ap (λ (n : ℕ). take n (drop at file)) (sym one) ∙ begins (text ++ 0 ∷ []) e.rest (drop at file) (end - at) split;
              no_zero = e.none;
              in_table = omega arith;
              in_file = leb-true end (length file) inside;
            })
        | inr past ↦ (let none : None ≡ Some text = sym (ap (λ (b : Bool). cond b (zero_ended (slice_range file at end)) None) past) ∙ found in absurd cc)
      ])
]

stands_string : (file : List ℕ) (offset : ℕ) (text : List ℕ) → IsString file offset text → string_at file offset ≡ Some text
stands_string file offset text s =
    let at : ℕ = strings_start file + offset in
    let end : ℕ = strings_start file + strings_size file in
    let len : ℕ = length text + 1 in
    let d : List ℕ = drop at file in
    let low = s.behind_size in
    let inside = s.in_table in
    let four = le-ltb offset 4 low in
    let fits = le-leb end (length file) s.in_file in
    let more : end - at ≡ len + (end - at - len) = omega arith in
    let split : take (end - at) d ≡ take len d ++ take (end - at - len) (drop len d) = ap (λ (n : ℕ). take n d) more ∙ take-add len (end - at - len) d in
    let whole : slice_range file at end ≡ text ++ 0 ∷ take (end - at - len) (drop len d) =
    split ∙ ap (λ (bs : List ℕ). bs ++ take (end - at - len) (drop len d)) s.bytes ∙ append_assoc text (0 ∷ []) (take (end - at - len) (drop len d)) in
    rw (four, fits, whole) (zero_ended-behind text (take (end - at - len) (drop len d)) s.no_zero)

-- the strings of a string table are those at its offsets
pub string_is : (file : List ℕ) (offset : ℕ) (text : List ℕ) → (string_at file offset ≡ Some text) ↔ IsString file offset text
string_is file offset text = (string_stands file offset text, stands_string file offset text)
