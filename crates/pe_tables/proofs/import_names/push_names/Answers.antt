-- Entry by entry.
use Rattle.std.proofs.Common.{◌≡◌, ◌∙◌, ◌+◌, ◌≤◌, ◌⊎◌, inl, inr, ◌++◌, ℕ, List, true, false, sym, ap, append_assoc, arith}
use Rattle.pe_layout.specs.Layout.{image_of, size_small}
use Rattle.pe_tables.specs.Imports.{lookup_at, ends_table}
use Rattle.pe_tables.proofs.Lookups.{inside_of, negated, affirmed}
use Rattle.pe_tables.proofs.ImportNames.{names_from, names-end, names-all, names-step}
use Rattle.pe_tables.proofs.import_names.push_names.Goals as goal

wide : (width slot_width : ℕ) → width ≡ slot_width → (width ≡ 4) ⊎ (width ≡ 8) → 4 ≤ slot_width
wide width slot_width is (inl four) = omega arith
wide width slot_width is (inr eight) = omega arith

pub loop-rva-init : goal.loop-rva-init
loop-rva-init g c =
    let i = image_of c.args.layout.now in
    let some = wide c.slot_width-width.result _ c.slot_width-width.ensures.value c.slot_width-width.ensures.width in
    ap (λ (rest : List ℕ). c.args.names.now.items ++ rest) (ap (names_from i) c.lookup_table-rva.ensures ∙ names-all i (omega arith) c.args.descriptor)

pub overflow_add-rva : goal.overflow_add-rva
overflow_add-rva g c =
    let i = image_of c.args.layout.now in
    let goes = negated _ (sym c.in_ok-push_name.ensures.0 ∙ c.if-branch.true) in
    let inside : c.loop-rva.rva + i.slot_width ≤ i.size = inside_of _ _ _ goes in
    let small = size_small c.args.layout.now in
    let width = c.slot_width-width.ensures.value in
    omega (arith, inside, small, width)

pub loop-rva-preserved : goal.loop-rva-preserved
loop-rva-preserved g c =
    let i = image_of c.args.layout.now in
    let rva : ℕ = c.loop-rva.rva in
    let before : List ℕ = c.loop-rva.names.items in
    let some = wide c.slot_width-width.result _ c.slot_width-width.ensures.value c.slot_width-width.ensures.width in
    let goes : ends_table i (lookup_at i rva 0) ≡ false = negated _ (sym c.in_ok-push_name.ensures.0 ∙ c.if-branch.true) in
    ap (λ (n : ℕ). c.push_name.new.names.items ++ names_from i (rva + n)) c.slot_width-width.ensures.value
    ∙ ap (λ (ns : List ℕ). ns ++ names_from i (rva + i.slot_width)) c.in_ok-push_name.ensures.1
    ∙ append_assoc before _ (names_from i (rva + i.slot_width))
    ∙ ap (λ (rest : List ℕ). before ++ rest) (sym (names-step i (omega arith) rva goes))
    ∙ c.loop-rva.invariant

pub returns : goal.returns
returns g c =
    let i = image_of c.args.layout.now in
    let ends : ends_table i (lookup_at i c.loop-rva.rva 0) ≡ true = affirmed _ (sym c.in_ok-push_name.ensures.0 ∙ c.if-branch.false) in
    c.in_ok-push_name.ensures.1 ∙ ap (λ (rest : List ℕ). c.loop-rva.names.items ++ rest) (sym (names-end i c.loop-rva.rva ends)) ∙ c.loop-rva.invariant
