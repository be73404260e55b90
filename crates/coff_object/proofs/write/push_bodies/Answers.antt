-- One section's body more.
use Rattle.std.proofs.Common.{◌∙◌, ◌+◌, ◌++◌, List, ℕ, drop, sym, ap, subst, append_assoc, append-nil}
use Rattle.std.specs.Prelude.{map}
use Rattle.std.specs.List.{flat_map, AllByRecursion}
use Rattle.coff_read.specs.ObjectView.{section_view}
use Rattle.coff_read.specs.Records.{Section, RelocationsFit}
use Rattle.coff_object.specs.Written.{section_body}
use Rattle.coff_object.proofs.Listed.{items_left, none_left, all_front}
use Rattle.coff_object.proofs.write.push_bodies.Goals as goal

pub loop-section-preserved : goal.loop-section-preserved
loop-section-preserved g c =
    let sections = c.args.sections.now in
    let old : List ℕ = c.loop-section.bytes.items in
    let more : List Section = map section_view (drop (c.loop-section.section-index + 1) sections) in
    let step = items_left section_view sections c.loop-section.section-index c.section-item.result c.loop-section-test.true c.section-item.is in
    record {
      told = λ later. c.loop-section.invariant.told (all_front RelocationsFit _ _ _ step c.in_ok-push_body.ensures.fits later);
      bytes =
          ap (λ (bytes : List ℕ). bytes ++ flat_map section_body more) c.in_ok-push_body.ensures.bytes ∙ append_assoc old (section_body (section_view c.section-item.result)) (flat_map section_body more)
          ∙ sym (ap (λ (left : List Section). old ++ flat_map section_body left) step) ∙ c.loop-section.invariant.bytes;
    }

pub returns-clause-fits : goal.returns-clause-fits
returns-clause-fits g c = c.loop-section.invariant.told (subst (AllByRecursion RelocationsFit) (sym (none_left section_view c.args.sections.now c.loop-section.section-index c.loop-section-test.false)) tt)

pub returns-clause-bytes : goal.returns-clause-bytes
returns-clause-bytes g c =
    let none = none_left section_view c.args.sections.now c.loop-section.section-index c.loop-section-test.false in
    sym (append-nil c.loop-section.bytes.items) ∙ sym (ap (λ (left : List Section). c.loop-section.bytes.items ++ flat_map section_body left) none) ∙ c.loop-section.invariant.bytes
