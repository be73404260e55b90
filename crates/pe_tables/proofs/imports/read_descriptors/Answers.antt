-- Descriptor by descriptor.
use Rattle.std.proofs.Common.{◌≡◌, ◌∙◌, ◌+◌, ◌-◌, ◌≤◌, ◌++◌, ◌∷◌, ℕ, List, true, false, [], sym, ap, subst, append-nil, arith}
use Rattle.std.specs.Prelude.{IsTrue}
use Rattle.std.specs.List.{flat_map}
use Rattle.std.proofs.lemmas.Result.{err_from_is_err_and}
use Rattle.pe_view.specs.Faults.{first_standing}
use Rattle.pe_layout.specs.Layout.{image_of, size_small}
use Rattle.pe_tables.specs.Imports.{Import, descriptor_at, descriptors_from, descriptors_of, ends_list, imports_in}
use Rattle.pe_tables.specs.ImportFaults.{descriptor_tests, descriptors_tests}
use Rattle.pe_tables.specs.TableFaults.{goes_past}
use Rattle.pe_tables.specs.ImportReading.{read_of}
use Rattle.pe_tables.specs.declared.imports.Descriptor.{Descriptor}
use Rattle.pe_tables.proofs.Lookups.{inside_of, negated, affirmed}
use Rattle.pe_tables.proofs.Descriptors.{descriptors-enough, descriptors-step, descriptors-in, descriptors-past, descriptors-end, descriptors-imports, descriptors-none, descriptors-asked, descriptors-asked_later}
use Rattle.pe_view.specs.declared.refusal.Refusal.TheVariants.{Memory}
use Rattle.pe_tables.proofs.Refusing.{refuses-whole, err_of}
use Rattle.pe_tables.proofs.imports.read_descriptors.Goals as goal

pub loop-rva-init : goal.loop-rva-init
loop-rva-init g c =
    let i = image_of c.args.layout.now in
    let start : ℕ = c.args.start in
    let none = c.requires.none in
    let same : descriptors_from (i.size - start) i start ≡ descriptors_of i start = descriptors-enough i (i.size - start) i.size start (omega arith) (omega arith) in
    record {
      known = c.requires.known;
      indexed = c.requires.indexed;
      tests =
          ap (λ (found : List Import). first_standing (descriptors_tests i found (descriptors_from (i.size - start) i start))) none
          ∙ ap (λ (ds : List Descriptor). first_standing (descriptors_tests i [] ds)) same;
      past = λ later.
          subst (λ (ds : List Descriptor). IsTrue (goes_past 31 (descriptors_tests i [] ds))) same
          (subst (λ (found : List Import). IsTrue (goes_past 31 (descriptors_tests i found (descriptors_from (i.size - start) i start)))) none later);
      imports =
          ap (λ (found : List Import). found ++ flat_map (imports_in i) (descriptors_from (i.size - start) i start)) none
          ∙ ap (flat_map (imports_in i)) same;
    }

pub returns-in_err-read_descriptor-clause-exact : goal.returns-in_err-read_descriptor-clause-exact
returns-in_err-read_descriptor-clause-exact g c =
    let i = image_of c.args.layout.now in
    let rva : ℕ = c.loop-rva.rva in
    let before = read_of c.loop-rva.found in
    let p = err_from_is_err_and c.from_residual.result c.from_residual.ensures.1 in
    rw (p.1, p.2)
    (refuses-whole (descriptor_tests i before (descriptor_at i rva)) (descriptors_tests i [] (descriptors_of i c.args.start))
    (λ y some. sym c.loop-rva.invariant.tests ∙ descriptors-in i before rva (i.size - rva) y some)
    c.in_err-read_descriptor.field-0.0 c.in_err-read_descriptor.ensures.exact)

pub returns-in_err-read_descriptor-clause-memory : goal.returns-in_err-read_descriptor-clause-memory
returns-in_err-read_descriptor-clause-memory g c = λ refused.
    let i = image_of c.args.layout.now in
    let rva : ℕ = c.loop-rva.rva in
    let p = err_from_is_err_and c.from_residual.result c.from_residual.ensures.1 in
    c.loop-rva.invariant.past
    (descriptors-asked i (read_of c.loop-rva.found) rva (i.size - rva) (c.in_err-read_descriptor.ensures.memory (err_of c.in_err-read_descriptor.field-0.0 Memory (rw (p.1, p.2) at refused))))

pub overflow_add-rva : goal.overflow_add-rva
overflow_add-rva g c =
    let i = image_of c.args.layout.now in
    let goes = negated _ (sym c.in_ok-read_descriptor.ensures.exact.1.0 ∙ c.if-branch.true) in
    let inside : c.loop-rva.rva + 20 ≤ i.size = inside_of _ _ _ goes in
    let small = size_small c.args.layout.now in
    omega (arith, inside, small)

pub loop-rva-preserved : goal.loop-rva-preserved
loop-rva-preserved g c =
    let i = image_of c.args.layout.now in
    let rva : ℕ = c.loop-rva.rva in
    let before = read_of c.loop-rva.found in
    let goes : ends_list i (descriptor_at i rva) ≡ false = negated _ (sym c.in_ok-read_descriptor.ensures.exact.1.0 ∙ c.if-branch.true) in
    let left : List Descriptor = descriptors_from (i.size - (rva + 20)) i (rva + 20) in
    let step : descriptors_from (i.size - rva) i rva ≡ descriptor_at i rva ∷ left = descriptors-step i rva goes in
    let more : read_of c.read_descriptor.new.found ≡ before ++ imports_in i (descriptor_at i rva) = c.in_ok-read_descriptor.ensures.exact.1.1.imports in
    record {
      known = c.read_descriptor.ensures.known;
      indexed = c.in_ok-read_descriptor.ensures.exact.1.1.indexed;
      tests =
          ap (λ (found : List Import). first_standing (descriptors_tests i found left)) more
          ∙ sym (descriptors-past i before rva left (i.size - rva) step c.in_ok-read_descriptor.ensures.exact.0) ∙ c.loop-rva.invariant.tests;
      past = λ later. c.loop-rva.invariant.past
          (descriptors-asked_later i before rva left (i.size - rva) step c.in_ok-read_descriptor.ensures.exact.0
          (subst (λ (found : List Import). IsTrue (goes_past 31 (descriptors_tests i found left))) more later));
      imports =
          ap (λ (found : List Import). found ++ flat_map (imports_in i) left) more
          ∙ sym (descriptors-imports i before rva left (i.size - rva) step) ∙ c.loop-rva.invariant.imports;
    }

pub returns-clause-exact : goal.returns-clause-exact
returns-clause-exact g c =
    let i = image_of c.args.layout.now in
    let rva : ℕ = c.loop-rva.rva in
    let before = read_of c.loop-rva.found in
    let ends : ends_list i (descriptor_at i rva) ≡ true = affirmed _ (sym c.in_ok-read_descriptor.ensures.exact.1.0 ∙ c.if-branch.false) in
    let last = descriptors-end (i.size - rva) i rva ends in
    let more : read_of c.read_descriptor.new.found ≡ before ++ imports_in i (descriptor_at i rva) = c.in_ok-read_descriptor.ensures.exact.1.1.imports in (
      sym c.loop-rva.invariant.tests ∙ descriptors-past i before rva [] (i.size - rva) last c.in_ok-read_descriptor.ensures.exact.0 ∙ descriptors-none i _,
      more ∙ sym (append-nil _) ∙ sym (descriptors-imports i before rva [] (i.size - rva) last) ∙ c.loop-rva.invariant.imports,
    )
