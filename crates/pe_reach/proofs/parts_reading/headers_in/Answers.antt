use Rattle.std.proofs.Common.{◌≡◌, ◌∙◌, ◌^◌, ◌<◌, ◌≤◌, List, ℕ, length, None, true, false, sym, ap, arith}
use Rattle.std.specs.Prelude.{Bool, is_none, max, nat_le, ◌&&◌}
use Rattle.std.proofs.lemmas.Bool.{and_parts, and_from, and_left, and_right, leb-true, le-leb, lt-leb}
use Rattle.pe_view.specs.Faults.{first_standing}
use Rattle.pe_head.specs.Checked.{checked_file}
use Rattle.pe_head.specs.Head.{head_of, field}
use Rattle.pe_head.specs.HeaderFaults.{head_tests}
use Rattle.pe_head.specs.declared.headers.Headers.{Headers}
use Rattle.pe_layout.specs.SectionFaults.{placing_tests}
use Rattle.pe_reach.specs.Reach.{headers_end}
use Rattle.pe_reach.specs.PartsRead.{can_begin}
use Rattle.pe_reach.proofs.PartBytes.{ok_none, err_some, headers_same, sound_same}
use Rattle.pe_reach.proofs.parts_reading.headers_in.Goals as goal

pub returns-then-not-can_begin-clause-exact : goal.returns-then-not-can_begin-clause-exact
returns-then-not-can_begin-clause-exact c =
    let no : can_begin c.args.len (length c.args.begin.now) ≡ false = sym c.can_begin.ensures ∙ c.if-not-can_begin.true in
    sym (and_left _ _ no)

pub returns-in-Err-clause-exact : goal.returns-in-Err-clause-exact
returns-in-Err-clause-exact c =
    let no : is_none (first_standing (head_tests 0 c.args.begin.now)) ≡ false =
    ap (λ (f : List ℕ). is_none (first_standing (head_tests 0 f))) (sym c.new.ensures) ∙ ap is_none c.in-Err.ensures in
    sym (and_right _ _ (and_left _ _ no))

pub returns-then-end-begin-clause-exact : goal.returns-then-end-begin-clause-exact
returns-then-end-begin-clause-exact c =
    let begin = c.args.begin.now in
    let same : checked_file c.in-Ok.checked ≡ begin = c.in-Ok.ensures.1 ∙ c.new.ensures in
    let ends : c.headers_end.result ≡ headers_end begin = c.headers_end.ensures ∙ ap headers_end same in
    let size : c.size_of_headers.result ≡ field begin 60 4 = c.size_of_headers.ensures ∙ ap (λ (f : List ℕ). field f 60 4) same in
    let past : length begin < max (headers_end begin) (head_of begin).size_of_headers = omega (arith, c.max-end.ensures, c.from.ensures, ends, size, c.if-end-begin.true) in
    sym (and_right _ _ (and_right _ _ (and_left _ _ (lt-leb (max (headers_end begin) (head_of begin).size_of_headers) (length begin) past))))

-- the last of four tests fails
no_last : (a b c d : Bool) → d ≡ false → false ≡ (a && (b && (c && d)))
no_last a b c d last = sym (and_right a (b && (c && d)) (and_right b (c && d) (and_right c d last)))

pub returns-then-is_err-clause-exact : goal.returns-then-is_err-clause-exact
returns-then-is_err-clause-exact c =
    let begin = c.args.begin.now in
    let len = c.args.len in
    let same : checked_file c.in-Ok.checked ≡ begin = c.in-Ok.ensures.1 ∙ c.new.ensures in
    let heads : c.headers-headers.result ≡ head_of begin = c.headers-headers.ensures ∙ ap head_of same in
    let misplaced = err_some (placing_tests 0 c.headers-headers.result len) c.check_sections.result c.check_sections.ensures (sym c.is_err.ensures.value ∙ c.if-is_err.true) in
    let no : is_none (first_standing (placing_tests 0 (head_of begin) len)) ≡ false =
    ap (λ (h : Headers). is_none (first_standing (placing_tests 0 h len))) (sym heads) ∙ misplaced in
    no_last (can_begin len (length begin)) (is_none (first_standing (head_tests 0 begin))) (nat_le (max (headers_end begin) (head_of begin).size_of_headers) (length begin)) _ no

pub returns-clause-exact : goal.returns-clause-exact
returns-clause-exact c =
    let begin = c.args.begin.now in
    let len = c.args.len in
    let begins : can_begin len (length begin) ≡ true = sym c.can_begin.ensures ∙ c.if-not-can_begin.false in
    let same : checked_file c.in-Ok.checked ≡ begin = c.in-Ok.ensures.1 ∙ c.new.ensures in
    let none : is_none (first_standing (head_tests 0 begin)) ≡ true =
    ap (λ (f : List ℕ). is_none (first_standing (head_tests 0 f))) (sym c.new.ensures) ∙ ap is_none c.in-Ok.ensures.0 in
    let ends : c.headers_end.result ≡ headers_end begin = c.headers_end.ensures ∙ ap headers_end same in
    let size : c.size_of_headers.result ≡ field begin 60 4 = c.size_of_headers.ensures ∙ ap (λ (f : List ℕ). field f 60 4) same in
    let heads : c.headers-headers.result ≡ head_of begin = c.headers-headers.ensures ∙ ap head_of same in
    let within : max (headers_end begin) (head_of begin).size_of_headers ≤ length begin = omega (arith, c.max-end.ensures, c.from.ensures, ends, size, c.if-end-begin.false) in
    let placed = ok_none (placing_tests 0 c.headers-headers.result len) c.check_sections.result c.check_sections.ensures (sym c.is_err.ensures.value ∙ c.if-is_err.false) in
    let placing : is_none (first_standing (placing_tests 0 (head_of begin) len)) ≡ true =
    ap (λ (h : Headers). is_none (first_standing (placing_tests 0 h len))) (sym heads) ∙ ap is_none placed in
    sym (and_from _ _ begins (and_from _ _ none (and_from _ _ (le-leb (max (headers_end begin) (head_of begin).size_of_headers) (length begin) within) placing)))

pub returns-clause-sound : goal.returns-clause-sound
returns-clause-sound c =
    let begin = c.args.begin.now in
    let len = c.args.len in
    let begins = and_parts _ _ (sym c.can_begin.ensures ∙ c.if-not-can_begin.false) in
    let small : len ≤ 2 ^ 32 = leb-true _ _ begins.0 in
    let fits : length begin ≤ len = leb-true _ _ begins.1 in
    let same : checked_file c.in-Ok.checked ≡ begin = c.in-Ok.ensures.1 ∙ c.new.ensures in
    let none : first_standing (head_tests 0 begin) ≡ None = ap (λ (f : List ℕ). first_standing (head_tests 0 f)) (sym c.new.ensures) ∙ c.in-Ok.ensures.0 in
    let ends : c.headers_end.result ≡ headers_end begin = c.headers_end.ensures ∙ ap headers_end same in
    let size : c.size_of_headers.result ≡ field begin 60 4 = c.size_of_headers.ensures ∙ ap (λ (f : List ℕ). field f 60 4) same in
    let heads : c.headers-headers.result ≡ head_of begin = c.headers-headers.ensures ∙ ap head_of same in
    let held : headers_end begin ≤ length begin = omega (arith, c.max-end.ensures, ends, c.if-end-begin.false) in
    let covers : (head_of begin).size_of_headers ≤ length begin = omega (arith, c.max-end.ensures, c.from.ensures, size, c.if-end-begin.false) in
    let placed = ok_none (placing_tests 0 c.headers-headers.result len) c.check_sections.result c.check_sections.ensures (sym c.is_err.ensures.value ∙ c.if-is_err.false) in
    let placing : first_standing (placing_tests 0 (head_of begin) len) ≡ None = ap (λ (h : Headers). first_standing (placing_tests 0 h len)) (sym heads) ∙ placed in (
      small,
      λ file is has. (
        headers_same file begin len small is fits has held ∙ sym heads,
        sound_same file begin len small is fits has held covers none placing,
      ),
    )
