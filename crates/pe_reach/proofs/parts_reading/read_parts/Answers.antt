use Rattle.std.proofs.Common.{rules, ◌≡◌, ◌∙◌, ◌+◌, ◌<◌, ℕ, List, All, ◌++◌, length, vec_len, get_or, None, true, false, sym, ap, arith, append_assoc, inl, inr}
use Rattle.std.specs.Prelude.{min, is_some}
use Rattle.std.proofs.lemmas.List.{length-take, length-take-le}
use Rattle.pe_view.specs.Faults.{first_standing}
use Rattle.pe_head.specs.Head.{head_of}
use Rattle.pe_layout.specs.SectionFaults.{placing_tests}
use Rattle.pe_head.specs.declared.headers.Headers.{Headers}
use Rattle.pe_reach.specs.Parts.{Part, HasPart, HasParts}
use Rattle.pe_reach.specs.PartsRead.{IsRawInside, has_headers, with_sections}
use Rattle.pe_reach.proofs.PartBytes.{all_first, all_rest, headers_packed, early_on, early_within, all_inside, begins_as, none_is, placed_by_test}
use Rattle.pe_reach.proofs.parts_reading.read_parts.Goals as goal

pub returns-clause-parts : goal.returns-clause-parts
returns-clause-parts g c =
    let e1 = c.in_ok-read_range.ensures.reads in
    let all = e1.2.1 c.if-not-branch.false in
    let begin = c.read_range.new.bytes.items in
    let value : c.deref.result.now ≡ begin = c.deref.ensures.value in
    let same = rw (c.in-Some.is, value) at c.headers_in.ensures.same in
    let held = rw (c.in-Some.is, value) at c.headers_in.ensures.held in
    let sound = rw (c.in-Some.is, value) at c.headers_in.ensures.sound in
    let e2 = c.in_ok-sections.ensures.reads in
    let s2 = rw c.in-Some-2.is at e2.2.1 in
    let empty : vec_len c.new-bytes.result ≡ 0 = c.new-bytes.ensures.len in
    let long : length begin ≡ vec_len c.read_range.new.bytes = search rules in
    let kept : length c.truncate.new.self.items ≡ c.in-Some.headers.size_of_headers = ap length c.truncate.ensures.items ∙ length-take-le c.in-Some.headers.size_of_headers begin held in
    let front : min (vec_len c.truncate.new.self) (length c.read_sections.new.bytes.items) ≡ length c.truncate.new.self.items = sym (length-take (vec_len c.truncate.new.self) c.read_sections.new.bytes.items) ∙ ap length s2.0 in
    let whole : length c.truncate.new.self.items ≡ vec_len c.truncate.new.self = search rules in
    let starts : (file : List ℕ) → HasParts file e1.0 → HasPart file (record { offset = 0; bytes = begin }) =
    λ file has k lt. sym (all.2 file has k (omega (arith, lt, long, all.0, empty))) ∙ ap (λ j. get_or begin j 0) (let e : vec_len c.new-bytes.result + k ≡ k = omega (arith, empty) in e) in (
      e1.0 ++ e2.0,
      e2.1 ∙ ap (λ (ps : List Part). ps ++ e2.0) e1.1 ∙ append_assoc (g.R.PartSource.parts c.args.reader.now) e1.0 e2.0,
      (
        e2.2.0 ∙ e1.2.0,
        λ file size has.
            let first = starts file (all_first (HasPart file) e1.0 e2.0 has) in
            let known = sound.1 file size first in
            record {
              headers = known.0;
              sound = known.1;
              packed = record {
                headers = ap (λ (h : Headers). record h { sections = c.in-Some-2.sections; pointer_to_symbol_table = 0; number_of_symbols = 0 }) (same.1 ∙ sym same.0);
                bytes = headers_packed file begin c.truncate.new.self.items c.read_sections.new.bytes.items c.in-Some.headers.size_of_headers (vec_len c.truncate.new.self) held c.truncate.ensures.items (search rules) s2.0 first;
                sections = s2.1 file (all_rest (HasPart file) e1.0 e2.0 has);
              };
              covers = omega (arith, kept, front, whole);
            },
      ),
    )

pub returns-clause-places : goal.returns-clause-places
returns-clause-places g c =
    let begin = c.read_range.new.bytes.items in
    let value : c.deref.result.now ≡ begin = c.deref.ensures.value in
    let same = rw (c.in-Some.is, value) at c.headers_in.ensures.same in
    let h = c.in-Some.headers in
    let kept : vec_len c.truncate.new.self ≡ h.size_of_headers = search rules in
    let placed = rw (c.in-Some-2.is, kept) at c.in_ok-sections.ensures.places in
    ap (λ (x : Headers). record x { sections = c.in-Some-2.sections; pointer_to_symbol_table = 0; number_of_symbols = 0 }) (same.1 ∙ sym same.0) ∙ ap (with_sections h) placed

pub returns-clause-size : goal.returns-clause-size
returns-clause-size g c =
    let kept : vec_len c.truncate.new.self ≡ c.in-Some.headers.size_of_headers = search rules in
    let long : length c.read_sections.new.bytes.items ≡ vec_len c.read_sections.new.bytes = search rules in
    long ∙ rw (c.in-Some-2.is, kept) at c.in_ok-sections.ensures.end

pub returns-then-not-branch-clause-left : goal.returns-then-not-branch-clause-left
returns-then-not-branch-clause-left g c = inr (inl (early_within _ _ _ _ (omega (arith, c.if-len-lt-LEAST.false)) (c.in_ok-read_range.ensures.early c.if-not-branch.true)))

pub returns-in_default-clause-left : goal.returns-in_default-clause-left
returns-in_default-clause-left g c =
    let e1 = c.in_ok-read_range.ensures.reads in
    let all = e1.2.1 c.if-not-branch.false in
    let begin = c.read_range.new.bytes.items in
    let value : c.deref.result.now ≡ begin = c.deref.ensures.value in
    let empty : vec_len c.new-bytes.result ≡ 0 = c.new-bytes.ensures.len in
    let long : length begin ≡ vec_len c.read_range.new.bytes = search rules in
    let size : length begin ≡ 4096 = omega (arith, long, all.0, empty) in
    let none : has_headers c.args.len begin ≡ false = rw value at (sym c.headers_in.ensures.exact ∙ ap is_some (none_is _ c.in_default.not-Some)) in
    inr (inr (record {
      read = e1.0;
      reads = e1.1;
      refused = λ file is has.
          let first : (k : ℕ) → k < 4096 → get_or begin k 0 ≡ get_or file k 0 =
          λ k lt. ap (λ j. get_or begin j 0) (let e : k ≡ vec_len c.new-bytes.result + k = omega (arith, empty) in e) ∙ all.2 file has k lt ∙ ap (λ j. get_or file j 0) (let e : 0 + k ≡ k = omega arith in e) in
          ap (has_headers c.args.len) (begins_as file begin 4096 size (omega (arith, is, c.if-len-lt-LEAST.false)) first) ∙ none;
    }))

pub returns-in_default-2-clause-left : goal.returns-in_default-2-clause-left
returns-in_default-2-clause-left g c =
    let e1 = c.in_ok-read_range.ensures.reads in
    let begin = c.read_range.new.bytes.items in
    let value : c.deref.result.now ≡ begin = c.deref.ensures.value in
    let same = rw (c.in-Some.is, value) at c.headers_in.ensures.same in
    let sound : has_headers c.args.len begin ≡ true = sym (rw (c.in-Some.is, value) at c.headers_in.ensures.exact) in
    let placed : first_standing (placing_tests 0 (head_of begin) c.args.len) ≡ None = placed_by_test c.args.len begin sound in
    let inside : All (IsRawInside c.args.len) c.in-Some.headers.sections.items = rw same.0 (all_inside 0 (head_of begin) c.args.len 0 0 (head_of begin).sections.items placed) in
    let early = rw (none_is _ c.in_default-2.not-Some) at c.in_ok-sections.ensures.early in
    inr (inl (early_on _ _ _ _ e1.0 e1.1 (early inside)))

pub returns-in_default-2-clause-parts : goal.returns-in_default-2-clause-parts
returns-in_default-2-clause-parts g c =
    let e1 = c.in_ok-read_range.ensures.reads in
    let e2 = c.in_ok-sections.ensures.reads in (
      e1.0 ++ e2.0,
      e2.1 ∙ ap (λ (ps : List Part). ps ++ e2.0) e1.1 ∙ append_assoc (g.R.PartSource.parts c.args.reader.now) e1.0 e2.0,
      (e2.2.0 ∙ e1.2.0, tt),
    )
