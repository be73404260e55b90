-- Descriptor by descriptor.
use Rattle.std.proofs.Common.{◌≡◌, ◌∙◌, ◌+◌, ◌-◌, ◌≤◌, ◌++◌, ◌∷◌, ℕ, List, true, false, [], sym, ap, append_assoc, append-nil, arith}
use Rattle.std.specs.List.{flat_map}
use Rattle.pe_layout.specs.Layout.{image_of, size_small}
use Rattle.pe_tables.specs.Imports.{descriptor_at, descriptors_from, descriptors_of, ends_list}
use Rattle.pe_tables.specs.ImportNames.{names_in}
use Rattle.pe_tables.specs.declared.imports.Descriptor.{Descriptor}
use Rattle.pe_tables.proofs.Lookups.{inside_of, negated, affirmed}
use Rattle.pe_tables.proofs.Descriptors.{descriptors-enough, descriptors-step, descriptors-end}
use Rattle.pe_tables.proofs.import_names.push_list.Goals as goal

pub loop-rva-init : goal.loop-rva-init
loop-rva-init g c =
    let i = image_of c.args.layout.now in
    let start : ℕ = c.args.start in
    let same : descriptors_from (i.size - start) i start ≡ descriptors_of i start = descriptors-enough i (i.size - start) i.size start (omega arith) (omega arith) in
    ap (λ (ds : List Descriptor). c.args.names.now.items ++ flat_map (names_in i) ds) same

pub overflow_add-rva : goal.overflow_add-rva
overflow_add-rva g c =
    let i = image_of c.args.layout.now in
    let goes = negated _ (sym c.in_ok-push_descriptor.ensures.0 ∙ c.if-branch.true) in
    let inside : c.loop-rva.rva + 20 ≤ i.size = inside_of _ _ _ goes in
    let small = size_small c.args.layout.now in
    omega (arith, inside, small)

pub loop-rva-preserved : goal.loop-rva-preserved
loop-rva-preserved g c =
    let i = image_of c.args.layout.now in
    let rva : ℕ = c.loop-rva.rva in
    let before : List ℕ = c.loop-rva.names.items in
    let here : Descriptor = descriptor_at i rva in
    let left : List Descriptor = descriptors_from (i.size - (rva + 20)) i (rva + 20) in
    let goes : ends_list i here ≡ false = negated _ (sym c.in_ok-push_descriptor.ensures.0 ∙ c.if-branch.true) in
    let step : descriptors_from (i.size - rva) i rva ≡ here ∷ left = descriptors-step i rva goes in
    ap (λ (ns : List ℕ). ns ++ flat_map (names_in i) left) c.in_ok-push_descriptor.ensures.1
    ∙ append_assoc before (names_in i here) (flat_map (names_in i) left)
    ∙ ap (λ (ds : List Descriptor). before ++ flat_map (names_in i) ds) (sym step)
    ∙ c.loop-rva.invariant

pub returns : goal.returns
returns g c =
    let i = image_of c.args.layout.now in
    let rva : ℕ = c.loop-rva.rva in
    let before : List ℕ = c.loop-rva.names.items in
    let here : Descriptor = descriptor_at i rva in
    let ends : ends_list i here ≡ true = affirmed _ (sym c.in_ok-push_descriptor.ensures.0 ∙ c.if-branch.false) in
    let last : descriptors_from (i.size - rva) i rva ≡ here ∷ [] = descriptors-end (i.size - rva) i rva ends in
    c.in_ok-push_descriptor.ensures.1
    ∙ ap (λ (ns : List ℕ). before ++ ns) (sym (append-nil (names_in i here)))
    ∙ ap (λ (ds : List Descriptor). before ++ flat_map (names_in i) ds) (sym last)
    ∙ c.loop-rva.invariant
