use Rattle.std.proofs.Common.{rules, ◌≡◌, ◌∙◌, ◌+◌, ◌≤◌, List, ◌++◌, length, sym, vec_len, ap, arith, append_assoc}
use Rattle.std.proofs.lemmas.List.{length-append, take_all}
use Rattle.pe_head.specs.declared.section.SectionHeader.{SectionHeader}
use Rattle.pe_reach.specs.Parts.{Part, HasPart}
use Rattle.pe_reach.proofs.PartBytes.{all_first, all_rest, front_on, section_more, packed_more, packed_all, end_more, end_all, early_on, none_is}
use Rattle.pe_reach.proofs.parts_reading.read_sections.Goals as goal

pub loop-section-preserved : goal.loop-section-preserved
loop-section-preserved g c =
    let inv = c.loop-section.invariant in
    let r = inv.reads in
    let e = c.in_ok-pointer.ensures.reads in
    let some = rw c.in-Some.is at e.2.1 in
    let place = rw c.in-Some.is at c.in_ok-pointer.ensures.place in
    let size : length c.loop-section.bytes.items ≡ vec_len c.loop-section.bytes = search rules in
    let size' : length c.read_section.new.bytes.items ≡ vec_len c.read_section.new.bytes = search rules in
    record {
      reads = (
        r.0 ++ e.0,
        e.1 ∙ ap (λ (ps : List Part). ps ++ e.0) r.1 ∙ append_assoc (g.R.PartSource.parts c.args.reader.now) r.0 e.0,
        λ file has. rw c.push.ensures.items
            (section_more file c.loop-section.bytes.items c.read_section.new.bytes.items (vec_len c.loop-section.bytes) c.args.headers.now.sections.items c.as_slice-section-items.result.now c.loop-section.sections.items
            c.loop-section.section-index _ c.in-Some.pointer c.as_slice-section-items.ensures.value c.loop-section-test.true size some.2 (omega (arith, size', some.1))
            (r.2 file (all_first (HasPart file) r.0 e.0 has)) (some.3 file (all_rest (HasPart file) r.0 e.0 has))),
      );
      packed = rw c.push.ensures.items
          (packed_more c.args.headers.now c.args.len (vec_len c.loop-section.bytes) (vec_len c.read_section.new.bytes) c.args.headers.now.sections.items c.as_slice-section-items.result.now c.loop-section.sections.items _
          c.loop-section.section-index _ c.in-Some.pointer c.as_slice-section-items.ensures.value c.loop-section-test.true place.0 place.1 inv.packed);
      ends = end_more c.args.headers.now c.args.len (vec_len c.loop-section.bytes) (vec_len c.read_section.new.bytes) c.args.headers.now.sections.items c.as_slice-section-items.result.now _
          c.loop-section.section-index _ c.as_slice-section-items.ensures.value c.loop-section-test.true place.1 inv.ends;
      failures = e.2.0 ∙ inv.failures;
      placed = ap length c.push.ensures.items ∙ length-append {A = SectionHeader} c.loop-section.sections.items _ ∙ ap (λ n. n + 1) inv.placed;
      room = some.0;
      grows = omega (arith, inv.grows, some.1);
      front = front_on (vec_len c.args.bytes.now) (vec_len c.loop-section.bytes) c.loop-section.bytes.items c.read_section.new.bytes.items c.args.bytes.now.items inv.grows some.2 inv.front;
    }

pub returns-clause-reads : goal.returns-clause-reads
returns-clause-reads g c =
    let inv = c.loop-section.invariant in
    let r = inv.reads in
    let ss = c.args.headers.now.sections.items in
    let past : length ss ≤ c.loop-section.section-index = omega (arith, ap length c.as_slice-section-items.ensures.value, c.loop-section-test.false) in
    (r.0, r.1, (inv.failures, (inv.front, λ file has. rw (take_all c.loop-section.section-index ss past) at (r.2 file has))))

pub returns-clause-places : goal.returns-clause-places
returns-clause-places g c =
    let ss = c.args.headers.now.sections.items in
    let past : length ss ≤ c.loop-section.section-index = omega (arith, ap length c.as_slice-section-items.ensures.value, c.loop-section-test.false) in
    packed_all c.args.headers.now c.args.len (vec_len c.loop-section.bytes) ss c.loop-section.sections.items _ c.loop-section.section-index past c.loop-section.invariant.packed

pub returns-clause-end : goal.returns-clause-end
returns-clause-end g c =
    let ss = c.args.headers.now.sections.items in
    let past : length ss ≤ c.loop-section.section-index = omega (arith, ap length c.as_slice-section-items.ensures.value, c.loop-section-test.false) in
    end_all c.args.headers.now c.args.len (vec_len c.loop-section.bytes) ss _ c.loop-section.section-index past c.loop-section.invariant.ends

pub returns-in_default-clause-early : goal.returns-in_default-clause-early
returns-in_default-clause-early g c =
    λ inside.
    let early = rw (none_is _ c.in_default.not-Some) at c.in_ok-pointer.ensures.early in
    let same = c.as_slice-section-items.ensures.value in
    let held = rw (sym same) at inside in
    early_on _ _ _ _ c.loop-section.invariant.reads.0 c.loop-section.invariant.reads.1 (early (held c.loop-section.section-index _ c.loop-section-test.true))
