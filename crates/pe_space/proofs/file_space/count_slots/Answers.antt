use Rattle.std.proofs.Common.{◌∙◌, arith, ◌+◌, ◌<◌, take, get_or, sym, subst}
use Rattle.std.specs.Prelude.{slice_set}
use Rattle.std.proofs.lemmas.List.{get_or_default}
use Rattle.pe_set.specs.declared.binding.Binding.{Binding}
use Rattle.pe_space.specs.FileSpaceView.{SlotCounts}
use Rattle.pe_space.proofs.FileSpaces.{counts_more, count_fits}
use Rattle.pe_space.proofs.Lists.{each_at}
use Rattle.pe_space.proofs.file_space.count_slots.Goals as goal

pub overflow_add-index_mut : goal.overflow_add-index_mut
overflow_add-index_mut g c =
    let k = c.loop-binding.binding-index in
    let bs = c.args.bindings.now in
    let small = each_at (λ (b : Binding). b.exporter < c.args.images) bs k (record { image = 0; slot = 0; exporter = 0; rva = 0 }) c.requires.exporters c.loop-binding-test.true in
    let fits = count_fits c.args.images k bs _ c.loop-binding.counts.items c.loop-binding-test.true c.requires.few small c.loop-binding.invariant in
    let value = c.index_mut.ensures.value ∙ get_or_default c.loop-binding.counts.items _ _ 0 (omega (arith, small, c.loop-binding.invariant.count)) in
    omega (arith, fits, value)

pub loop-binding-preserved : goal.loop-binding-preserved
loop-binding-preserved g c =
    let k = c.loop-binding.binding-index in
    let bs = c.args.bindings.now in
    let d : Binding = record { image = 0; slot = 0; exporter = 0; rva = 0 } in
    let small = each_at (λ (b : Binding). b.exporter < c.args.images) bs k d c.requires.exporters c.loop-binding-test.true in
    let value = c.index_mut.ensures.value ∙ get_or_default c.loop-binding.counts.items _ _ 0 (omega (arith, small, c.loop-binding.invariant.count)) in
    subst (λ n. SlotCounts c.args.images (take (k + 1) bs) (slice_set c.loop-binding.counts.items (get_or bs k d).exporter (n + 1))) (sym value)
    (counts_more c.args.images k bs d c.loop-binding.counts.items c.loop-binding-test.true small c.loop-binding.invariant)
