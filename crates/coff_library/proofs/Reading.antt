-- A member that was written is read back where it stands.
use Rattle.std.proofs.Common.{◌≡◌, ◌∙◌, ℕ, zero, suc, ◌+◌, ◌-◌, ◌%◌, ◌^◌, ◌<◌, ◌≤◌, Bool, false, cond, List, [], ◌∷◌, ◌++◌, length, Option, Some, None, refl, sym, ap, arith, length-append}
use Rattle.std.specs.Prelude.{map, replicate, nat_lt, nat_le, is_none, Result, Ok}
use Rattle.std.specs.Fmt.{decimal}
use Rattle.std.specs.List.{flat_map, AllByRecursion}
use Rattle.std.specs.Option.{unwrap_or}
use Rattle.std.proofs.lemmas.Bool.{le-ltb, le-leb, lt-leb}
use Rattle.std.proofs.lemmas.List.{length-replicate}
use Rattle.pe_numbers.specs.StandsAt.{StandsAt, stands-front, stands-back, stands_part, stands_inside, stands_num}
use Rattle.pe_view.specs.declared.fault.Fault.{Fault}
use Rattle.pe_view.specs.Faults.{first_standing}
use Rattle.pe_view.specs.Number.{num, byte_of, part}
use Rattle.coff_archive.specs.Bytes as format
use Rattle.coff_archive.specs.Members.{Member, name_field, size_field, held_at, header_tests, member_in, next_of, even_from, read_by, read_at, walk_from, is_no_header}
use Rattle.coff_library.specs.Written.{padded, header_fields, header, pad, record_of, room}
use Rattle.coff_library.proofs.Fields.{decimal_read, length-padded, length-digits}

pub length-fields : (n : ℕ) → n < 2 ^ 32 → length (header_fields n) ≡ 44
unfolding header_fields padded
length-fields n small =
    let size = length-padded 10 (decimal n) (length-digits n small) in
    let both = length-append (padded 10 (decimal n)) (96 ∷ 10 ∷ []) in
    omega (arith, size, both)

pub length-header : (text : List ℕ) (n : ℕ) → length text ≤ 16 → n < 2 ^ 32 → length (header text n) ≡ 60
unfolding header
length-header text n short small =
    let name = length-padded 16 text short in
    let fields = length-fields n small in
    let both = length-append (padded 16 text) (header_fields n) in
    omega arith

pub length-record : (text bytes : List ℕ) → length text ≤ 16 → length bytes < 2 ^ 32 → length (record_of text bytes) ≡ room (length bytes)
length-record text bytes short small =
    let front = length-header text (length bytes) short small in
    let one = length-append (header text (length bytes)) (bytes ++ pad (length bytes)) in
    let two = length-append bytes (pad (length bytes)) in
    let fill : length {A = ℕ} (replicate (length bytes % 2) 10) ≡ length bytes % 2 = length-replicate (length bytes % 2) 10 in
    omega arith

-- the fields of a header that stands at a place
record Fields (file : List ℕ) (at : ℕ) (text : List ℕ) (n : ℕ) : Type 0 where
  name : name_field file at ≡ padded 16 text
  size : size_field file at ≡ Some n
  mark : num (byte_of file) (at + 58) 2 ≡ 0x0a60

size_is : (n : ℕ) → n < 2 ^ 32 → format.decimal (padded 10 (decimal n)) ≡ Some n
unfolding padded
size_is n small = decimal_read n (10 - length (decimal n)) small

fields : (file : List ℕ) (at : ℕ) (text : List ℕ) (n : ℕ) → length text ≤ 16 → n < 2 ^ 32 → StandsAt file at (header text n) → Fields file at text n
unfolding header header_fields padded
fields file at text n short small there =
    let len = length-padded 16 text short in
    let digits = length-padded 10 (decimal n) (length-digits n small) in
    let name = stands-front file at (padded 16 text) (header_fields n) there in
    let rest = stands-back file at (at + 16) (padded 16 text) (header_fields n) there (omega (arith, len)) in
    let owner : List ℕ = padded 12 (48 ∷ []) ++ (padded 6 (48 ∷ []) ++ (padded 6 (48 ∷ []) ++ padded 8 (54 ∷ 52 ∷ 52 ∷ []))) in
    let tail : List ℕ = padded 10 (decimal n) ++ (96 ∷ 10 ∷ []) in
    let behind = stands-back file (at + 16) (at + 48) owner tail rest (omega arith) in
    let size = stands-front file (at + 48) (padded 10 (decimal n)) (96 ∷ 10 ∷ []) behind in
    let mark = stands-back file (at + 48) (at + 58) (padded 10 (decimal n)) (96 ∷ 10 ∷ []) behind (omega (arith, digits)) in
    record {
      name = stands_part file at 16 (padded 16 text) name (sym len);
      size = ap format.decimal (stands_part file (at + 48) 10 (padded 10 (decimal n)) size (sym digits)) ∙ size_is n small;
      mark = ap (λ (p : ℕ). num (byte_of file) p 2) (let e : at + 58 ≡ at + 58 + 0 = omega arith in e) ∙ stands_num file (at + 58) (96 ∷ 10 ∷ []) 0 2 mark (omega arith);
    }

-- a text in a name field, and bytes
abbrev pub Part : Type 0
Part = List ℕ × List ℕ

abbrev pub written : Part → List ℕ
written e = record_of e.0 e.1

abbrev pub member_at : ℕ → Part → Member
member_at at e = record { offset = at; field = padded 16 e.0; size = length e.1; bytes = e.1 }

pub record Fits (e : Part) : Type 0 where
  pub text : length e.0 ≤ 16
  pub bytes : length e.1 < 2 ^ 32

-- how a part that stands at a place is read
pub record IsRead (file : List ℕ) (at : ℕ) (e : Part) : Type 0 where
  pub none : first_standing (header_tests false file at) ≡ None
  pub member : read_at false file at ≡ Ok (member_at at e)
  pub next : next_of false file at ≡ at + length (written e)
  pub after : even_from file (at + 60 + length e.1) ≡ at + length (written e)
  pub inside : at + 60 ≤ length file

no_test : (file : List ℕ) (at n : ℕ) → is_no_header file at ≡ false → size_field file at ≡ Some n → at + 60 + n ≤ length file → first_standing (header_tests false file at) ≡ None
no_test file at n first size inside =
    let last : nat_lt (length file) (at + 60 + n) ≡ false = le-ltb (length file) (at + 60 + n) inside in
    rw (first, size, last) refl

member_is : (file : List ℕ) (at n : ℕ) (field bytes : List ℕ) → name_field file at ≡ field → size_field file at ≡ Some n → part file (at + 60) n ≡ bytes
    → member_in false file at ≡ record { offset = at; field = field; size = n; bytes = bytes }
member_is file at n field bytes name size is = rw (size, name, is) refl

pub is_read : (file : List ℕ) (at : ℕ) (e : Part) → Fits e → at % 2 ≡ 0 → StandsAt file at (written e) → IsRead file at e
is_read file at e fits even there =
    let n : ℕ = length e.1 in
    let short = fits.text in
    let small = fits.bytes in
    let head = length-header e.0 n short small in
    let len = length-record e.0 e.1 short small in
    let front = stands-front file at (header e.0 n) (e.1 ++ pad n) there in
    let behind = stands-back file at (at + 60) (header e.0 n) (e.1 ++ pad n) there (omega (arith, head)) in
    let body = stands-front file (at + 60) e.1 (pad n) behind in
    let f = fields file at e.0 n short small front in
    let inside = stands_inside file at (written e) there (omega (arith, len)) in
    let first : is_no_header file at ≡ false = rw (le-ltb (length file) (at + 60) (omega (arith, len, inside)), f.mark) refl in
    let none = no_test file at n first f.size (omega (arith, len, inside)) in
    let held : held_at false file at ≡ n = ap (λ (o : Option ℕ). unwrap_or o 0) f.size in
    record {
      none = none;
      member = ap (λ (o : Option Fault). read_by o (member_in false file at)) none ∙ ap Ok (member_is file at n (padded 16 e.0) e.1 f.name f.size (stands_part file (at + 60) n e.1 body refl));
      next = (let parity : (at + 60 + n) % 2 ≡ n % 2 = omega (arith, even) in omega (arith, held, len, inside, parity));
      after = (let parity : (at + 60 + n) % 2 ≡ n % 2 = omega (arith, even) in omega (arith, len, inside, parity));
      inside = omega (arith, len, inside);
    }

-- the members of parts, the first of which is at an offset
abbrev pub found_from : ℕ → List Part → List Member
found_from at [] = []
found_from at (e ∷ es) = member_at at e ∷ found_from (at + length (written e)) es

ends : (file : List ℕ) (most at : ℕ) → length file ≤ at → walk_from false file most at ≡ []
ends file zero at past = refl
ends file (suc most) at past = rw (le-leb (length file) at past) refl

pub even_room : (text bytes : List ℕ) → length text ≤ 16 → length bytes < 2 ^ 32 → length (record_of text bytes) % 2 ≡ 0
even_room text bytes short small = let len = length-record text bytes short small in omega arith

abbrev archive_result : Type 0
archive_result = Result Member Fault

-- a walk over parts finds the member of each
pub walk_is : (file : List ℕ) (es : List Part) (most at : ℕ) → AllByRecursion Fits es → at % 2 ≡ 0 → StandsAt file at (flat_map written es) → at + length (flat_map written es) ≡ length file
    → length file ≤ at + most → walk_from false file most at ≡ map Ok (found_from at es)
walk_is file [] most at fits even there end enough = ends file most at (omega (arith, end))
walk_is file (e ∷ es) zero at fits even there end enough =
    let len = length-record e.0 e.1 fits.0.text fits.0.bytes in
    let both = length-append (written e) (flat_map written es) in
    absurd (omega (arith, len, both, end, enough))
walk_is file (e ∷ es) (suc most) at fits even there end enough =
    let len = length-record e.0 e.1 fits.0.text fits.0.bytes in
    let both = length-append (written e) (flat_map written es) in
    let front = stands-front file at (written e) (flat_map written es) there in
    let behind = stands-back file at (at + length (written e)) (written e) (flat_map written es) there refl in
    let r = is_read file at e fits.0 even front in
    let parity = even_room e.0 e.1 fits.0.text fits.0.bytes in
    let rest = walk_is file es most (at + length (written e)) fits.1 (omega (arith, parity, even)) behind (omega (arith, both, end)) (omega (arith, len, enough)) in
    let inside = r.inside in
    let here : nat_le (length file) at ≡ false = lt-leb (length file) at (omega (arith, inside)) in
    let m : archive_result = Ok (member_at at e) in
    ap (λ (b : Bool). cond b [] (read_at false file at ∷ cond (is_none (first_standing (header_tests false file at))) (walk_from false file most (next_of false file at)) [])) here
    ∙ ap (λ (o : Option Fault). read_at false file at ∷ cond (is_none o) (walk_from false file most (next_of false file at)) []) r.none
    ∙ ap (λ (x : archive_result). x ∷ walk_from false file most (next_of false file at)) r.member
    ∙ ap (λ (n : ℕ). m ∷ walk_from false file most n) r.next ∙ ap (λ (ms : List archive_result). m ∷ ms) rest
