-- Entry by entry.
use Rattle.std.proofs.Common.{◌≡◌, ◌∙◌, ◌+◌, ◌-◌, ◌≤◌, ◌⊎◌, inl, inr, ◌++◌, ◌∷◌, ℕ, List, true, false, [], sym, ap, subst, append-nil, arith}
use Rattle.std.specs.Prelude.{option_to_list, IsTrue}
use Rattle.std.specs.List.{filter_map}
use Rattle.std.proofs.lemmas.Result.{err_from_is_err_and}
use Rattle.pe_view.specs.Faults.{first_standing}
use Rattle.pe_layout.specs.Layout.{image_of, size_small}
use Rattle.pe_tables.specs.Imports.{Import, Lookup, lookup_at, lookups_from, lookups_of, ends_table, import_of}
use Rattle.pe_tables.specs.ImportFaults.{lookup_tests, lookups_tests}
use Rattle.pe_tables.specs.TableFaults.{goes_past}
use Rattle.pe_tables.specs.ImportReading.{read_of}
use Rattle.pe_tables.proofs.Lookups.{lookups-enough, lookups-step, lookups-in, lookups-past, lookups-end, lookups-imports, lookups-none, lookups-asked, lookups-asked_later, slot_inside, inside_of, negated, affirmed}
use Rattle.pe_view.specs.declared.refusal.Refusal.TheVariants.{Memory}
use Rattle.pe_tables.proofs.Refusing.{refuses-whole, err_of}
use Rattle.pe_tables.proofs.imports.read_lookups.Goals as goal

wide : (width slot_width : ℕ) → width ≡ slot_width → (width ≡ 4) ⊎ (width ≡ 8) → 4 ≤ slot_width
wide width slot_width is (inl four) = omega arith
wide width slot_width is (inr eight) = omega arith

pub loop-rva-init : goal.loop-rva-init
loop-rva-init g c =
    let i = image_of c.args.layout.now in
    let d = c.args.descriptor in
    let name = c.args.«module».now in
    let some = wide c.slot_width-width.result _ c.slot_width-width.ensures.value c.slot_width-width.ensures.width in
    let rva : ℕ = c.lookup_table-rva.result in
    let same : lookups_from (i.size - rva) i rva d.addresses ≡ lookups_of i d =
    lookups-enough i (omega arith) (i.size - rva) i.size rva d.addresses (omega arith) (omega arith)
    ∙ ap (λ (n : ℕ). lookups_from i.size i n d.addresses) c.lookup_table-rva.ensures in
    record {
      known = c.requires.known;
      indexed = c.requires.indexed;
      tests = ap (λ (ls : List Lookup). first_standing (lookups_tests i name (read_of c.args.found.now) ls)) same;
      past = subst (λ (ls : List Lookup). IsTrue (goes_past 31 (lookups_tests i name (read_of c.args.found.now) ls))) same;
      imports = ap (λ (ls : List Lookup). read_of c.args.found.now ++ filter_map (import_of i name) ls) same;
    }

pub returns-in_err-read_lookup-clause-exact : goal.returns-in_err-read_lookup-clause-exact
returns-in_err-read_lookup-clause-exact g c =
    let i = image_of c.args.layout.now in
    let rva : ℕ = c.loop-rva.rva in
    let slot : ℕ = c.loop-rva.slot in
    let name = c.args.«module».now in
    let before = read_of c.loop-rva.found in
    let p = err_from_is_err_and c.from_residual.result c.from_residual.ensures.1 in
    rw (p.1, p.2)
    (refuses-whole (lookup_tests i before (lookup_at i rva slot)) (lookups_tests i name (read_of c.args.found.now) (lookups_of i c.args.descriptor))
    (λ y some. sym c.loop-rva.invariant.tests ∙ lookups-in i name before rva slot (i.size - rva) y some)
    c.in_err-read_lookup.field-0.0 c.in_err-read_lookup.ensures.exact)

pub returns-in_err-read_lookup-clause-memory : goal.returns-in_err-read_lookup-clause-memory
returns-in_err-read_lookup-clause-memory g c = λ refused.
    let i = image_of c.args.layout.now in
    let rva : ℕ = c.loop-rva.rva in
    let p = err_from_is_err_and c.from_residual.result c.from_residual.ensures.1 in
    c.loop-rva.invariant.past
    (lookups-asked i c.args.«module».now (read_of c.loop-rva.found) rva c.loop-rva.slot (i.size - rva) (c.in_err-read_lookup.ensures.memory (err_of c.in_err-read_lookup.field-0.0 Memory (rw (p.1, p.2) at refused))))

pub overflow_add-rva : goal.overflow_add-rva
overflow_add-rva g c =
    let i = image_of c.args.layout.now in
    let goes = negated _ (sym c.in_ok-read_lookup.ensures.exact.1.0 ∙ c.if-branch.true) in
    let inside : c.loop-rva.rva + i.slot_width ≤ i.size = inside_of _ _ _ goes in
    let small = size_small c.args.layout.now in
    let width = c.slot_width-width.ensures.value in
    omega (arith, inside, small, width)

pub overflow_add-slot : goal.overflow_add-slot
overflow_add-slot g c =
    let i = image_of c.args.layout.now in
    let goes = negated _ (sym c.in_ok-read_lookup.ensures.exact.1.0 ∙ c.if-branch.true) in
    let inside = slot_inside i (read_of c.loop-rva.found) (lookup_at i c.loop-rva.rva c.loop-rva.slot) goes c.in_ok-read_lookup.ensures.exact.0 in
    let small = size_small c.args.layout.now in
    let width = c.slot_width-width.ensures.value in
    omega (arith, inside, small, width)

pub loop-rva-preserved : goal.loop-rva-preserved
loop-rva-preserved g c =
    let i = image_of c.args.layout.now in
    let name = c.args.«module».now in
    let rva : ℕ = c.loop-rva.rva in
    let slot : ℕ = c.loop-rva.slot in
    let before = read_of c.loop-rva.found in
    let some = wide c.slot_width-width.result _ c.slot_width-width.ensures.value c.slot_width-width.ensures.width in
    let width : c.slot_width-width.result ≡ i.slot_width = c.slot_width-width.ensures.value in
    let goes : ends_table i (lookup_at i rva slot) ≡ false = negated _ (sym c.in_ok-read_lookup.ensures.exact.1.0 ∙ c.if-branch.true) in
    let left : List Lookup = lookups_from (i.size - (rva + i.slot_width)) i (rva + i.slot_width) (slot + i.slot_width) in
    let step : lookups_from (i.size - rva) i rva slot ≡ lookup_at i rva slot ∷ left = lookups-step i (omega arith) rva slot goes in
    let more : read_of c.read_lookup.new.found ≡ before ++ option_to_list (import_of i name (lookup_at i rva slot)) = c.in_ok-read_lookup.ensures.exact.1.1.imports in
    let at : lookups_from (i.size - (rva + c.slot_width-width.result)) i (rva + c.slot_width-width.result) (slot + c.slot_width-width.result) ≡ left =
    ap (λ (n : ℕ). lookups_from (i.size - (rva + n)) i (rva + n) (slot + n)) width in
    record {
      known = c.read_lookup.ensures.known;
      indexed = c.in_ok-read_lookup.ensures.exact.1.1.indexed;
      tests =
          ap (λ (ls : List Lookup). first_standing (lookups_tests i name (read_of c.read_lookup.new.found) ls)) at
          ∙ ap (λ (found : List Import). first_standing (lookups_tests i name found left)) more
          ∙ sym (lookups-past i name before rva slot left (i.size - rva) step c.in_ok-read_lookup.ensures.exact.0) ∙ c.loop-rva.invariant.tests;
      past = λ later. c.loop-rva.invariant.past
          (lookups-asked_later i name before rva slot left (i.size - rva) step c.in_ok-read_lookup.ensures.exact.0
          (subst (λ (found : List Import). IsTrue (goes_past 31 (lookups_tests i name found left))) more
          (subst (λ (ls : List Lookup). IsTrue (goes_past 31 (lookups_tests i name (read_of c.read_lookup.new.found) ls))) at later)));
      imports =
          ap (λ (ls : List Lookup). read_of c.read_lookup.new.found ++ filter_map (import_of i name) ls) at
          ∙ ap (λ (found : List Import). found ++ filter_map (import_of i name) left) more
          ∙ sym (lookups-imports i name before rva slot left (i.size - rva) step) ∙ c.loop-rva.invariant.imports;
    }

pub returns-clause-exact : goal.returns-clause-exact
returns-clause-exact g c =
    let i = image_of c.args.layout.now in
    let name = c.args.«module».now in
    let rva : ℕ = c.loop-rva.rva in
    let slot : ℕ = c.loop-rva.slot in
    let before = read_of c.loop-rva.found in
    let ends : ends_table i (lookup_at i rva slot) ≡ true = affirmed _ (sym c.in_ok-read_lookup.ensures.exact.1.0 ∙ c.if-branch.false) in
    let last = lookups-end (i.size - rva) i rva slot ends in
    let more : read_of c.read_lookup.new.found ≡ before ++ option_to_list (import_of i name (lookup_at i rva slot)) = c.in_ok-read_lookup.ensures.exact.1.1.imports in (
      sym c.loop-rva.invariant.tests ∙ lookups-past i name before rva slot [] (i.size - rva) last c.in_ok-read_lookup.ensures.exact.0 ∙ lookups-none i name _,
      record {
        imports = more ∙ sym (append-nil _) ∙ sym (lookups-imports i name before rva slot [] (i.size - rva) last) ∙ c.loop-rva.invariant.imports;
        indexed = c.in_ok-read_lookup.ensures.exact.1.1.indexed;
      },
    )
