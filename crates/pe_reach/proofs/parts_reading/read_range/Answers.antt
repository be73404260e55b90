use Rattle.std.proofs.Common.{rules, ◌∙◌, ◌+◌, ◌≤◌, List, [], ◌∷◌, ◌++◌, take, length, sym, refl, ap, arith, append-nil, append_assoc}
use Rattle.pe_reach.specs.Parts.{Part, HasPart}
use Rattle.pe_reach.proofs.PartBytes.{all_first, all_last, front_stays, stand_more, ends_early}
use Rattle.pe_reach.proofs.parts_reading.read_range.Goals as goal

pub returns-then-is_err-clause-reads : goal.returns-then-is_err-clause-reads
returns-then-is_err-clause-reads g c = ([], sym (append-nil _), refl)

pub loop-filled-preserved : goal.loop-filled-preserved
loop-filled-preserved g c =
    let items = c.loop-filled.bytes.items in
    let start = c.len-start.result in
    let filled = c.loop-filled.filled in
    let n = c.in-Ok.more in
    let room = c.read_at.new.buffer in
    let part : Part = record { offset = c.from-place.result + filled; bytes = take n room } in
    let r = c.loop-filled.invariant.reads in
    let fits : n ≤ length room = c.in-Ok.ensures.fits in
    let holds : start + filled + n ≤ c.loop-filled.bytes.len = search rules in
    let within : start + filled ≤ length items = search rules in
    record {
      reads = (
        r.0 ++ part ∷ [],
        c.in-Ok.ensures.parts ∙ ap (λ (ps : List Part). ps ++ part ∷ []) r.1 ∙ append_assoc (g.R.PartSource.parts c.args.reader.now) r.0 (part ∷ []),
        λ file has. rw c.deref_mut.ensures.value
            (stand_more items room _ _ c.loop-filled.bytes.len start filled n within fits holds file c.args.offset (r.2 file (all_first (HasPart file) r.0 (part ∷ []) has)) (rw c.from-place.ensures at (all_last (HasPart file) r.0 part has))),
      );
      failures = c.in-Ok.ensures.failures ∙ c.loop-filled.invariant.failures;
      size = c.loop-filled.invariant.size;
      front = rw c.deref_mut.ensures.value (front_stays items room _ _ c.loop-filled.bytes.len start filled n within fits holds) ∙ c.loop-filled.invariant.front;
      within = omega (arith, holds, c.loop-filled.invariant.size);
    }

pub returns-in-Ok-eq0-clause-early : goal.returns-in-Ok-eq0-clause-early
returns-in-Ok-eq0-clause-early g c = λ no.
    let r = c.loop-filled.invariant.reads in
    ends_early _ _ _ _ r.0 _ c.in-Ok-eq0.field-0 c.read_at.new.buffer (omega (arith, c.loop-filled-test.true, c.from-place.ensures)) r.1 c.in-Ok-eq0.field-0-test c.in-Ok-eq0.ensures.parts
