-- The descriptor at the index, and the next index.
use Rattle.std.proofs.Common.{rules, ◌≡◌, ◌∙◌, ◌+◌, ◌/◌, ◌<◌, true, not, ◌∷◌, length, sym, ap, arith}
use Rattle.std.proofs.lemmas.Bool.{not_from_false}
use Rattle.pe_view.specs.View.{bytes_of, size_of}
use Rattle.pe_delay.specs.Descriptors.{descriptor_at, descriptors_from, is_null}
use Rattle.pe_delay.specs.declared.descriptor.DelayDescriptor.{DelayDescriptor}
use Rattle.pe_delay.proofs.Walks.{one_more}
use Rattle.pe_delay.proofs.descriptors.DelayDescriptorsIterator.next.Goals as goal

pub returns-clause-steps : goal.returns-clause-steps
returns-clause-steps c =
    let s = c.args.self.now in
    let bytes = bytes_of s.table in
    let whole = c.len.ensures in
    let index = c.from.ensures in
    let fits = c.if-from-len.false in
    let under : s.index < size_of s.table / 32 = omega (arith, whole, index, fits) in
    let some : not (is_null (descriptor_at s.start bytes s.index)) ≡ true =
    not_from_false _ (ap is_null (sym c.descriptor_at-descriptor.ensures) ∙ sym c.is_null.ensures ∙ c.if-is_null.false) in
    one_more (λ (d : DelayDescriptor). not (is_null d)) (descriptor_at s.start bytes) (size_of s.table / 32) s.index under some
    ∙ ap (λ (d : DelayDescriptor). d ∷ descriptors_from s.start bytes (s.index + 1)) (sym c.descriptor_at-descriptor.ensures)

pub returns-clause-goes : goal.returns-clause-goes
returns-clause-goes c =
    let shorter = ap length (returns-clause-steps c) in
    search rules
