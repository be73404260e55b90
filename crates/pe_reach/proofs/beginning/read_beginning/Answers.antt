use Rattle.std.proofs.Common.{rules, ◌≡◌, ◌∙◌, ◌+◌, ◌<◌, ℕ, length, vec_len, get_or, false, sym, ap, arith, inl, inr}
use Rattle.std.specs.Prelude.{is_some}
use Rattle.pe_reach.specs.PartsRead.{has_headers}
use Rattle.pe_reach.proofs.PartBytes.{early_within, begins_as, none_is}
use Rattle.pe_reach.proofs.beginning.read_beginning.Goals as goal

pub returns-clause-begins : goal.returns-clause-begins
returns-clause-begins g c =
    let e1 = c.in_ok-read_range.ensures.reads in
    let all = e1.2.1 c.if-not-branch.false in
    let begin = c.read_range.new.bytes.items in
    let value : c.deref.result.now ≡ begin = c.deref.ensures.value in
    let same = rw (c.in-Some.is, value) at c.headers_in.ensures.same in
    let held = rw (c.in-Some.is, value) at c.headers_in.ensures.held in
    let sound = rw (c.in-Some.is, value) at c.headers_in.ensures.sound in
    let empty : vec_len c.new-bytes.result ≡ 0 = c.new-bytes.ensures.len in
    let long : length begin ≡ vec_len c.read_range.new.bytes = search rules in
    let size : length begin ≡ 4096 = omega (arith, long, all.0, empty) in (
      e1.0,
      e1.1,
      (
        e1.2.0,
        (
          record {
            size = size;
            within = omega (arith, c.if-len-lt-LEAST.false);
            small = sound.0;
            covers = omega (arith, held, size);
            each = sound.1;
          },
          λ file has k lt. sym (all.2 file has k (omega (arith, lt, long, all.0, empty))) ∙ ap (λ j. get_or begin j 0) (let e : vec_len c.new-bytes.result + k ≡ k = omega (arith, empty) in e),
        ),
      ),
    )

pub returns-then-not-branch-clause-left : goal.returns-then-not-branch-clause-left
returns-then-not-branch-clause-left g c = inr (inl (early_within _ _ _ _ (omega (arith, c.if-len-lt-LEAST.false)) (c.in_ok-read_range.ensures.early c.if-not-branch.true)))

pub returns-in_default-clause-left : goal.returns-in_default-clause-left
returns-in_default-clause-left g c =
    let e1 = c.in_ok-read_range.ensures.reads in
    let all = e1.2.1 c.if-not-branch.false in
    let begin = c.read_range.new.bytes.items in
    let value : c.deref.result.now ≡ begin = c.deref.ensures.value in
    let empty : vec_len c.new-bytes.result ≡ 0 = c.new-bytes.ensures.len in
    let long : length begin ≡ vec_len c.read_range.new.bytes = search rules in
    let size : length begin ≡ 4096 = omega (arith, long, all.0, empty) in
    let none : has_headers c.args.len begin ≡ false = rw value at (sym c.headers_in.ensures.exact ∙ ap is_some (none_is _ c.in_default.not-Some)) in
    inr (inr (record {
      read = e1.0;
      reads = e1.1;
      refused = λ file is has.
          let first : (k : ℕ) → k < 4096 → get_or begin k 0 ≡ get_or file k 0 =
          λ k lt. ap (λ j. get_or begin j 0) (let e : k ≡ vec_len c.new-bytes.result + k = omega (arith, empty) in e) ∙ all.2 file has k lt ∙ ap (λ j. get_or file j 0) (let e : 0 + k ≡ k = omega arith in e) in
          ap (has_headers c.args.len) (begins_as file begin 4096 size (omega (arith, is, c.if-len-lt-LEAST.false)) first) ∙ none;
    }))
