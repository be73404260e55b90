-- An image has SizeOfImage bytes.
use Rattle.std.proofs.Common.{◌∙◌, ◌+◌, ◌≤◌, ℕ, length, sym, ap, subst}
use Rattle.std.proofs.lemmas.List.FromFn.{length-map-range_with_len}
use Rattle.pe_layout.specs.Layout.{image_of}
use Rattle.pe_tables.specs.Fixups.{width_of}
use Rattle.pe_tables.specs.declared.fixups.Fixup.{Fixup}
use Rattle.pe_set.specs.SetView.{module_view}
use Rattle.pe_space.specs.FieldsAndSlots.{Each}
use Rattle.pe_space.proofs.mapping.place.Goals as goal

pub new-requires-clause-size : goal.new-requires-clause-size
new-requires-clause-size g c =
    let i = image_of c.args.own.image.layout in
    ap length c.in_ok-plain.ensures ∙ length-map-range_with_len i.byte 0 i.size ∙ sym c.size.ensures.value

pub new-requires-clause-inside : goal.new-requires-clause-inside
unfolding module_view
new-requires-clause-inside g c =
    let i = image_of c.args.own.image.layout in
    subst (λ (n : ℕ). Each (λ (f : Fixup). f.field + width_of f.kind ≤ n) c.args.own.image.fixups.items) (sym (ap length c.in_ok-plain.ensures ∙ length-map-range_with_len i.byte 0 i.size)) c.requires.inside
