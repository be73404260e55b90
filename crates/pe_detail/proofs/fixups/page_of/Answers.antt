use Rattle.std.proofs.Common.{◌≡◌, ◌∙◌, ◌+◌, ◌-◌, ◌≤◌, ℕ, suc, false, None, Some, sym, ap, arith}
use Rattle.std.specs.Prelude.{nat_lt}
use Rattle.std.proofs.lemmas.Bool.{lt-ltb, le-ltb}
use Rattle.pe_layout.specs.Layout.{image_of}
use Rattle.pe_tables.specs.Fixups.{blocks_from}
use Rattle.pe_detail.specs.FixupDetail.{block_size, page_in}
use Rattle.pe_detail.proofs.Pages.{page-found, page-passed, page-none, page-inside}
use Rattle.pe_detail.proofs.fixups.page_of.Goals as goal

pub returns-in_err-size-clause-value : goal.returns-in_err-size-clause-value
returns-in_err-size-clause-value c =
    let i = image_of c.args.layout.now in
    let none : block_size i c.end_of-end.result c.loop-block.rva ≡ None = sym c.block_size.ensures.value ∙ c.in_err-size.was in
    c.from_residual.ensures
    ∙ sym (page-none i c.end_of-end.result c.loop-block.rva (c.args.directory.size - c.loop-block._block) c.args.at none)
    ∙ c.loop-block.invariant.page

pub returns-then-at-rva-clause-value : goal.returns-then-at-rva-clause-value
returns-then-at-rva-clause-value c =
    let i = image_of c.args.layout.now in
    let end : ℕ = c.end_of-end.result in
    let rva : ℕ = c.loop-block.rva in
    let size : ℕ = c.in_ok-size.size in
    let is : block_size i end rva ≡ Some size = sym c.block_size.ensures.value ∙ c.in_ok-size.was in
    let left : ℕ = c.args.directory.size - (c.loop-block._block + 1) in
    let test = c.loop-block-test.true in
    let e : c.args.directory.size - c.loop-block._block ≡ suc left = omega (arith, test) in
    let inside : end ≤ i.size = omega (arith, c.end_of-end.ensures, c.requires.inside) in
    c.u32_in.ensures.value
    ∙ page-inside i end rva size inside is
    ∙ sym (page-found i end rva left size c.args.at is (lt-ltb _ _ c.if-at-rva.true))
    ∙ sym (ap (λ (n : ℕ). page_in c.args.at (blocks_from n i end rva)) e)
    ∙ c.loop-block.invariant.page

pub loop-block-preserved : goal.loop-block-preserved
loop-block-preserved c =
    let i = image_of c.args.layout.now in
    let end : ℕ = c.end_of-end.result in
    let rva : ℕ = c.loop-block.rva in
    let size : ℕ = c.in_ok-size.size in
    let is : block_size i end rva ≡ Some size = sym c.block_size.ensures.value ∙ c.in_ok-size.was in
    let left : ℕ = c.args.directory.size - (c.loop-block._block + 1) in
    let test = c.loop-block-test.true in
    let e : c.args.directory.size - c.loop-block._block ≡ suc left = omega (arith, test) in
    let past : nat_lt c.args.at (rva + size) ≡ false = le-ltb _ _ c.if-at-rva.false in
    record {
      small = omega (arith, c.if-at-rva.false, c.requires.small);
      page =
          sym (page-passed i end rva left size c.args.at is past)
          ∙ sym (ap (λ (n : ℕ). page_in c.args.at (blocks_from n i end rva)) e)
          ∙ c.loop-block.invariant.page;
    }

pub returns-clause-value : goal.returns-clause-value
returns-clause-value c =
    let i = image_of c.args.layout.now in
    let test = c.loop-block-test.false in
    let e : c.args.directory.size - c.loop-block._block ≡ 0 = omega (arith, test) in
    sym (ap (λ (n : ℕ). page_in c.args.at (blocks_from n i c.end_of-end.result c.loop-block.rva)) e) ∙ c.loop-block.invariant.page
