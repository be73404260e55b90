-- One block more, from the last to the first.
use Rattle.std.proofs.Common.{◌≡◌, ◌∙◌, ◌+◌, ◌-◌, ◌*◌, ◌/◌, length, min, ap, arith, rules}
use Rattle.coff_archive.specs.NameEnds.{end_from}
use Rattle.coff_archive.proofs.Ends.{block-kept, end-of-all}
use Rattle.coff_archive.proofs.member_names.block_ends.Goals as goal

pub loop-done-init : goal.loop-done-init
loop-done-init g c =
    let names = c.args.names.now in
    let all : length names ≡ min (length names) (256 * (length names / 256 + 1 - 0)) = omega arith in
    record {
      len = search rules;
      next = end-of-all names ∙ ap (end_from names) all;
      each = λ block from below. absurd (omega (arith, from, below));
    }

pub end_from-next-requires-clause-next : goal.end_from-next-requires-clause-next
end_from-next-requires-clause-next g c =
    let names = c.args.names.now in
    let i = c.loop-done.invariant in
    let under = c.loop-done-test.true in
    let is = c.min.ensures in
    let same : min (length names) (256 * (length names / 256 + 1 - c.loop-done.done)) ≡ c.min.result = omega (arith, under, is) in
    i.next ∙ ap (end_from names) same

pub loop-done-preserved : goal.loop-done-preserved
loop-done-preserved g c =
    let names = c.args.names.now in
    let i = c.loop-done.invariant in
    let under = c.loop-done-test.true in
    let len = i.len in
    let count = length names / 256 + 1 in
    let index = count - 1 - c.loop-done.done in
    let start : index * 256 ≡ 256 * index = omega arith in
    let stop : index * 256 ≡ min (length names) (256 * (count - (c.loop-done.done + 1))) = omega (arith, under) in
    record {
      len = search rules;
      next = c.end_from-next.ensures ∙ ap (end_from names) stop;
      each = λ block from below.
          block-kept names c.loop-done.ends.items count index c.end_from-next.result (omega (arith, len, under)) (c.end_from-next.ensures ∙ ap (end_from names) start)
          (λ other after. i.each other (omega (arith, after, under))) block (omega (arith, from)) below;
    }

pub returns-clause-ends : goal.returns-clause-ends
returns-clause-ends g c =
    let i = c.loop-done.invariant in
    let past = c.loop-done-test.false in
    let len = i.len in
    record {
      covers = omega (arith, len);
      each = λ block below. i.each block (omega (arith, past)) (omega (arith, below, len));
    }
