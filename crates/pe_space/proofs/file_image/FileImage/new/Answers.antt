use Rattle.std.proofs.Common.{◌<◌, ◌^◌, ◌∙◌, ap, sym, subst, List, ℕ, length}
use Rattle.std.specs.Prelude.{Vec}
use Rattle.std.proofs.lemmas.List.{with_items_is}
use Rattle.pe_set.specs.SetView.{module_view}
use Rattle.pe_tables.specs.declared.fixups.Fixup.{Fixup}
use Rattle.pe_space.specs.Ordered.{IsOrdered, field_of}
use Rattle.pe_space.proofs.file_image.FileImage.new.Goals as goal

pub invariant_of-result : goal.invariant_of-result
unfolding module_view
invariant_of-result g c =
    let sorted = c.put_in_order.new.items in
    subst (λ (xs : List Fixup). IsOrdered field_of c.of-listed.result.value.items xs × (length xs < 2 ^ 32)) (sym (with_items_is c.args.own.image.fixups sorted (c.put_in_order.auto.items ∙ c.as_mut_slice.ensures.len))) (
      subst (λ (v : Vec Fixup _). IsOrdered field_of v.items sorted) (sym c.of-listed.ensures)
          (subst (λ (xs : List Fixup). IsOrdered field_of xs sorted) c.as_mut_slice.ensures.value c.put_in_order.ensures),
      subst (λ (n : ℕ). n < 2 ^ 32) (sym (c.put_in_order.auto.items ∙ ap length c.as_mut_slice.ensures.value)) c.requires.few,
    )
