use Rattle.std.proofs.Common.{rules, ◌≡◌, ◌∙◌, ◌+◌, ◌≤◌, [], length, vec_len, true, false, sym, refl, arith, append-nil}
use Rattle.std.proofs.lemmas.List.{take_all}
use Rattle.pe_reach.specs.PartsRead.{is_packed}
use Rattle.pe_reach.proofs.PartBytes.{has_pointer}
use Rattle.pe_reach.proofs.parts_reading.read_section.Goals as goal

pub returns-then-not-is_packed-clause-reads : goal.returns-then-not-is_packed-clause-reads
returns-then-not-is_packed-clause-reads g c =
    let size : length c.args.bytes.now.items ≡ vec_len c.args.bytes.now = search rules in
    ([], sym (append-nil _), (refl, (c.requires.room, omega arith, take_all (vec_len c.args.bytes.now) c.args.bytes.now.items (omega (arith, size)), λ file has some. absurd (omega (arith, some)))))

pub returns-then-not-is_packed-clause-place : goal.returns-then-not-is_packed-clause-place
returns-then-not-is_packed-clause-place g c =
    let no : is_packed c.args.headers.now c.args.len (vec_len c.args.bytes.now) c.args.section.now ≡ false =
    rw c.len-place.ensures at (sym c.is_packed.ensures.exact ∙ c.if-not-is_packed.true) in
    (rw no refl, rw no refl)

pub returns-clause-reads : goal.returns-clause-reads
returns-clause-reads g c =
    let e = c.in_ok-read_range.ensures.reads in
    let all = e.2.1 c.if-not-branch.false in
    let size : length c.read_range.new.bytes.items ≡ vec_len c.read_range.new.bytes = search rules in
    let fits : c.len-place.result + c.rawlen-count.result ≤ c.args.len = rw c.rawlen-count.ensures (c.is_packed.ensures.fits c.if-not-is_packed.false) in (
      e.0,
      e.1,
      (
        e.2.0,
        (
          omega (arith, all.0, fits, c.len-place.ensures),
          omega (arith, all.0),
          all.1,
          λ file has some. record {
            raw = has_pointer c.args.section.now (c.is_packed.ensures.some c.if-not-is_packed.false);
            within = omega (arith, size, all.0, c.len-place.ensures, c.rawlen-count.ensures);
            bytes = λ k lt. rw c.len-place.ensures (all.2 file has k (rw c.rawlen-count.ensures lt));
          },
        ),
      ),
    )

pub returns-clause-place : goal.returns-clause-place
returns-clause-place g c =
    let all = c.in_ok-read_range.ensures.reads.2.1 c.if-not-branch.false in
    let yes : is_packed c.args.headers.now c.args.len (vec_len c.args.bytes.now) c.args.section.now ≡ true =
    rw c.len-place.ensures at (sym c.is_packed.ensures.exact ∙ c.if-not-is_packed.false) in
    (rw yes c.len-place.ensures, rw yes (rw c.rawlen-count.ensures at all.0))
