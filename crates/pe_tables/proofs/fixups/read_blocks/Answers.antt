-- Block by block.
use Rattle.std.proofs.Common.{◌≡◌, ◌∙◌, ◌+◌, ◌-◌, ◌≤◌, ◌++◌, ℕ, List, true, false, [], sym, ap, append-nil, arith}
use Rattle.std.specs.List.{flat_map}
use Rattle.std.proofs.lemmas.Bool.{ltb-false, or_parts}
use Rattle.std.proofs.lemmas.Result.{err_from_is_err_and}
use Rattle.pe_view.specs.Faults.{first_standing}
use Rattle.pe_layout.specs.Layout.{image_of}
use Rattle.pe_ranges.specs.RangesView.{ranges_in}
use Rattle.pe_tables.specs.Fixups.{Block, block_at, blocks_from, blocks_of, entries_of, fixups_in}
use Rattle.pe_tables.specs.FixupFaults.{is_bad_size, entries_tests, blocks_tests}
use Rattle.pe_tables.specs.declared.fixups.Fixup.{Fixup}
use Rattle.pe_tables.proofs.Blocks.{blocks-past, blocks-in, blocks-bad_size, blocks-fixups, blocks-end, blocks-none}
use Rattle.pe_tables.proofs.Refusing.{refuses-whole}
use Rattle.pe_tables.proofs.Settled.{keeps-trans, settled-before}
use Rattle.pe_tables.proofs.fixups.read_blocks.Goals as goal

pub returns-then-is_bad_size-clause-exact : goal.returns-then-is_bad_size-clause-exact
returns-then-is_bad_size-clause-exact g c = λ settled.
    let i = image_of c.args.layout.now in
    let end : ℕ = c.args.directory.rva + c.args.directory.size in
    let rva : ℕ = c.loop-size.rva in
    let bad : is_bad_size end rva (block_at i rva).size ≡ true = ap (is_bad_size end rva) (sym c.in-Some.ensures.1) ∙ sym c.is_bad_size.ensures ∙ c.if-is_bad_size.true in
    rw c.fault_at.ensures (sym (c.loop-size.invariant.tests settled) ∙ blocks-bad_size i (ranges_in c.args.slots.now) end rva c.loop-size.found.fixups.items c.in-Some.ensures.0 bad)

pub returns-in_err-read_block-clause-keeps : goal.returns-in_err-read_block-clause-keeps
returns-in_err-read_block-clause-keeps g c = keeps-trans c.args.found.now c.loop-size.found c.read_block.new.found c.loop-size.invariant.keeps c.read_block.ensures.keeps

pub returns-in_err-read_block-clause-exact : goal.returns-in_err-read_block-clause-exact
returns-in_err-read_block-clause-exact g c = λ settled.
    let i = image_of c.args.layout.now in
    let end : ℕ = c.args.directory.rva + c.args.directory.size in
    let rva : ℕ = c.loop-size.rva in
    let slots = ranges_in c.args.slots.now in
    let before = c.loop-size.found.fixups.items in
    let sized : is_bad_size end rva (block_at i rva).size ≡ false = ap (is_bad_size end rva) (sym c.in-Some.ensures.1) ∙ sym c.is_bad_size.ensures ∙ c.if-is_bad_size.false in
    let tests = c.loop-size.invariant.tests (settled-before c.loop-size.found c.read_block.new.found c.read_block.ensures.keeps settled) in
    let p = err_from_is_err_and c.from_residual.result c.from_residual.ensures.1 in
    rw (p.1, p.2)
    (refuses-whole (entries_tests i slots before (entries_of i (block_at i rva))) (blocks_tests i slots end [] (blocks_of i c.args.directory))
    (λ y some. sym tests ∙ blocks-in i slots end rva before c.in-Some.ensures.0 y sized some)
    c.in_err-read_block.field-0.0 (c.in_err-read_block.ensures.exact settled))

pub loop-size-preserved : goal.loop-size-preserved
loop-size-preserved g c =
    let i = image_of c.args.layout.now in
    let end : ℕ = c.args.directory.rva + c.args.directory.size in
    let rva : ℕ = c.loop-size.rva in
    let slots = ranges_in c.args.slots.now in
    let before = c.loop-size.found.fixups.items in
    let size : c.in-Some.size ≡ (block_at i rva).size = c.in-Some.ensures.1 in
    let sized : is_bad_size end rva (block_at i rva).size ≡ false = ap (is_bad_size end rva) (sym size) ∙ sym c.is_bad_size.ensures ∙ c.if-is_bad_size.false in
    let more : c.read_block.new.found.fixups.items ≡ before ++ fixups_in i (block_at i rva) = c.in_ok-read_block.ensures.reads.fixups in
    let left : List Block = blocks_from (end - (rva + (block_at i rva).size)) i end (rva + (block_at i rva).size) in
    let at : blocks_from (end - (rva + c.in-Some.size)) i end (rva + c.in-Some.size) ≡ left = ap (λ (n : ℕ). blocks_from (end - (rva + n)) i end (rva + n)) size in
    let inside : rva + (block_at i rva).size ≤ end = ltb-false _ _ (or_parts _ _ (or_parts _ _ sized).1).1 in
    record {
      begins = omega arith;
      keeps = keeps-trans c.args.found.now c.loop-size.found c.read_block.new.found c.loop-size.invariant.keeps c.read_block.ensures.keeps;
      indexed = c.in_ok-read_block.ensures.reads.indexed;
      fixups =
          ap (λ (bs : List Block). c.read_block.new.found.fixups.items ++ flat_map (fixups_in i) bs) at
          ∙ ap (λ (fs : List Fixup). fs ++ flat_map (fixups_in i) left) more
          ∙ sym (blocks-fixups i slots end rva before c.in-Some.ensures.0) ∙ c.loop-size.invariant.fixups;
      tests = λ settled. (
          let answered = c.in_ok-read_block.ensures.exact settled in
          ap (λ (bs : List Block). first_standing (blocks_tests i slots end c.read_block.new.found.fixups.items bs)) at
          ∙ ap (λ (fs : List Fixup). first_standing (blocks_tests i slots end fs left)) more
          ∙ sym (blocks-past i slots end rva before c.in-Some.ensures.0 sized answered.0)
          ∙ c.loop-size.invariant.tests (settled-before c.loop-size.found c.read_block.new.found c.read_block.ensures.keeps settled));
    }

pub returns-clause-fixups : goal.returns-clause-fixups
returns-clause-fixups g c =
    let i = image_of c.args.layout.now in
    let end : ℕ = c.args.directory.rva + c.args.directory.size in
    let rva : ℕ = c.loop-size.rva in
    let read = c.loop-size.found.fixups.items in
    let none : blocks_from (end - rva) i end rva ≡ [] = blocks-end i end rva (end - rva) c.in_default.ensures in
    sym (ap (λ (bs : List Block). read ++ flat_map (fixups_in i) bs) none ∙ append-nil read) ∙ c.loop-size.invariant.fixups

pub returns-clause-exact : goal.returns-clause-exact
returns-clause-exact g c = λ settled.
    let i = image_of c.args.layout.now in
    let end : ℕ = c.args.directory.rva + c.args.directory.size in
    let rva : ℕ = c.loop-size.rva in
    let slots = ranges_in c.args.slots.now in
    let read = c.loop-size.found.fixups.items in
    let none : blocks_from (end - rva) i end rva ≡ [] = blocks-end i end rva (end - rva) c.in_default.ensures in
    (sym (c.loop-size.invariant.tests settled) ∙ ap (λ (bs : List Block). first_standing (blocks_tests i slots end read bs)) none ∙ blocks-none i slots end read, tt)
