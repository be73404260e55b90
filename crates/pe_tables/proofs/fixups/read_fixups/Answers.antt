-- A table that lies in the image has the faults and the fixups of its blocks.
use Rattle.std.proofs.Common.{◌≡◌, ◌∙◌, ◌+◌, ◌≤◌, ℕ, Bool, Ok, Option, true, [], sym, ap, subst}
use Rattle.std.specs.Prelude.{map, IsTrue}
use Rattle.std.specs.List.{flat_map}
use Rattle.std.proofs.lemmas.Result.{err_from_is_err_and}
use Rattle.pe_view.specs.Faults.{first_standing}
use Rattle.pe_head.specs.declared.directory.Directory.{Directory}
use Rattle.pe_layout.specs.Image.{is_inside}
use Rattle.pe_layout.specs.Layout.{image_of}
use Rattle.pe_ranges.specs.Ranges.{SameRanges}
use Rattle.pe_ranges.specs.RangesView.{ranges_in}
use Rattle.pe_tables.specs.FirstBlock.{FirstBlock}
use Rattle.pe_tables.specs.TableFaults.{goes_past}
use Rattle.pe_tables.specs.Fixups.{blocks_of, fixups_in, fixups_at, slot_range}
use Rattle.pe_tables.specs.FixupFaults.{fixup_tests, fixup_tests_at, blocks_tests}
use Rattle.pe_tables.specs.Import.{slots_of}
use Rattle.pe_tables.proofs.Blocks.{table-past, table-none, table-bad, table-asked}
use Rattle.pe_tables.proofs.Lookups.{leb-≤}
use Rattle.pe_tables.proofs.Refusing.{answers-whole}
use Rattle.pe_tables.proofs.fixups.read_fixups.Goals as goal

pub returns-clause-exact : goal.returns-clause-exact
returns-clause-exact g c =
    let i = image_of c.args.layout.now in
    let d = c.in-Some.directory in
    let slots = ranges_in c.in_ok-slots.slots in
    let SameAs : ℕ → Type 0 = λ width. SameRanges slots (map (slot_range width) (slots_of c.args.imports.now)) in
    let same : SameAs i.slot_width = subst SameAs c.slot_width.ensures.value c.in_ok-slots.ensures in
    let test : is_inside i d.rva d.size ≡ true = ap (is_inside i d.rva) (sym c.from.ensures) ∙ sym c.contains.ensures.value ∙ c.if-not-contains.false in
    let inside : d.rva + d.size ≤ i.size = leb-≤ _ _ test in
    let whole = ap (λ (o : Option Directory). first_standing (fixup_tests_at i (map (slot_range i.slot_width) (slots_of c.args.imports.now)) o)) (sym c.in-Some.ensures)
    ∙ table-past i slots (map (slot_range i.slot_width) (slots_of c.args.imports.now)) d same inside in
    answers-whole (blocks_tests i slots (d.rva + d.size) [] (blocks_of i d)) (fixup_tests i (slots_of c.args.imports.now)) _ _
    whole (λ fixups items. items ∙ ap (fixups_at i) c.in-Some.ensures) c.read_table.result c.read_table.ensures

pub returns-in_err-has_block-clause-exact : goal.returns-in_err-has_block-clause-exact
returns-in_err-has_block-clause-exact g c =
    let i = image_of c.args.layout.now in
    let d = c.in-Some.directory in
    let others = map (slot_range i.slot_width) (slots_of c.args.imports.now) in
    let test : is_inside i d.rva d.size ≡ true = ap (is_inside i d.rva) (sym c.from.ensures) ∙ sym c.contains.ensures.value ∙ c.if-not-contains.false in
    let inside : d.rva + d.size ≤ i.size = leb-≤ _ _ test in
    let first = c.in_err-has_block.ensures.exact in
    let bad = ap (λ (o : Option Directory). first_standing (fixup_tests_at i others o)) (sym c.in-Some.ensures) ∙ table-bad i others d inside first.0 first.1 in
    let p = err_from_is_err_and c.from_residual.result c.from_residual.ensures.1 in
    rw (p.1, p.2, first.2) bad

pub returns-then-not-branch-clause-exact : goal.returns-then-not-branch-clause-exact
returns-then-not-branch-clause-exact g c =
    let i = image_of c.args.layout.now in
    let d = c.in-Some.directory in
    let others = map (slot_range i.slot_width) (slots_of c.args.imports.now) in
    let test : is_inside i d.rva d.size ≡ true = ap (is_inside i d.rva) (sym c.from.ensures) ∙ sym c.contains.ensures.value ∙ c.if-not-contains.false in
    let inside : d.rva + d.size ≤ i.size = leb-≤ _ _ test in
    let ends = subst (λ (b : Bool). FirstBlock i d (Ok b)) c.if-not-branch.true c.in_ok-has_block.ensures.exact in
    let none = table-none i others d inside ends in (
      ap (λ (o : Option Directory). first_standing (fixup_tests_at i others o)) (sym c.in-Some.ensures) ∙ none.0,
      c.new-then-not-branch.ensures.items ∙ sym (ap (flat_map (fixups_in i)) none.1) ∙ ap (fixups_at i) c.in-Some.ensures,
    )

pub returns-in_err-slots-clause-memory : goal.returns-in_err-slots-clause-memory
returns-in_err-slots-clause-memory g c = λ _.
    let i = image_of c.args.layout.now in
    let d = c.in-Some.directory in
    let others = map (slot_range i.slot_width) (slots_of c.args.imports.now) in
    let test : is_inside i d.rva d.size ≡ true = ap (is_inside i d.rva) (sym c.from.ensures) ∙ sym c.contains.ensures.value ∙ c.if-not-contains.false in
    let inside : d.rva + d.size ≤ i.size = leb-≤ _ _ test in
    let goes = subst (λ (b : Bool). FirstBlock i d (Ok b)) c.if-not-branch.false c.in_ok-has_block.ensures.exact in
    subst (λ (o : Option Directory). IsTrue (goes_past 33 (fixup_tests_at i others o))) c.in-Some.ensures (table-asked i others d inside goes.0 goes.1)

pub returns-clause-memory : goal.returns-clause-memory
returns-clause-memory g c = λ _.
    let i = image_of c.args.layout.now in
    let d = c.in-Some.directory in
    let others = map (slot_range i.slot_width) (slots_of c.args.imports.now) in
    let test : is_inside i d.rva d.size ≡ true = ap (is_inside i d.rva) (sym c.from.ensures) ∙ sym c.contains.ensures.value ∙ c.if-not-contains.false in
    let inside : d.rva + d.size ≤ i.size = leb-≤ _ _ test in
    let goes = subst (λ (b : Bool). FirstBlock i d (Ok b)) c.if-not-branch.false c.in_ok-has_block.ensures.exact in
    subst (λ (o : Option Directory). IsTrue (goes_past 33 (fixup_tests_at i others o))) c.in-Some.ensures (table-asked i others d inside goes.0 goes.1)
