-- The tests of each block are found, then those of the place where no block is.
use Rattle.std.proofs.Common.{◌≡◌, ◌∙◌, ◌-◌, ◌++◌, ℕ, List, ap, arith}
use Rattle.std.specs.Prelude.{if◌then◌else◌}
use Rattle.pe_view.specs.View.{bytes_of, size_of}
use Rattle.pe_view.specs.declared.fault.Fault.{Fault}
use Rattle.pe_view.specs.Standing.{standing}
use Rattle.pe_version.specs.Block.{has_key_end, body_of, place_of}
use Rattle.pe_version.specs.Blocks.{block_end}
use Rattle.pe_version.specs.Findings.{is_read, level_tests}
use Rattle.pe_version.proofs.Stepping.{onward}
use Rattle.pe_version.proofs.TestsFound.{block_found, inner_found, levels_stop}
use Rattle.pe_version.proofs.findings.+find_blocks.Goals as goal

pub find-requires : goal.find-requires
find-requires g t c = λ stands.
    let p = c.in-Some.ensures in
    let block = c.in-Some.block in
    let same : size_of block.view ≡ size_of c.args.blocks.view = ap (λ (v : _). size_of v) (p.its_view ∙ c.loop-block.invariant.view) in
    let some = block.some in
    let inside = block.inside in
    let small = c.requires in
    omega (arith, same, some, inside, small)

pub find_blocks-requires : goal.find_blocks-requires
find_blocks-requires g t c κs within =
    let p = c.in-Some.ensures in
    let same : size_of c.children.result.view ≡ size_of c.args.blocks.view = ap (λ (v : _). size_of v) (c.children.ensures.view ∙ p.its_view ∙ c.loop-block.invariant.view) in
    let bound = c.levels_in-inner.ensures.bound in
    let some = c.if-levels-eq0.false in
    let most = c.decreases in
    let small = c.requires in
    (omega (arith, bound, some, most), (within, omega (arith, same, small)))

pub loop-block-smaller : goal.loop-block-smaller
loop-block-smaller g t c =
    let b = c.loop-block.left in
    let p = c.in-Some.ensures in
    let further = onward (bytes_of b.view) b.end b.at p.there in
    let at = p.at in
    let near = c.next.new.self.near in
    omega (arith, further, at, near)

pub loop-block-preserved : goal.loop-block-preserved
loop-block-preserved g t c =
    let b = c.loop-block.left in
    let p = c.in-Some.ensures in
    let block = c.in-Some.block in
    let inner = c.children in
    let bytes : List ℕ = bytes_of b.view in
    let place : ℕ × ℕ = (b.at, block_end bytes b.at) in
    let below : ℕ = c.args.levels - 1 in
    let some = c.if-levels-eq0.false in
    let its : bytes_of block.view ≡ bytes = ap (λ (v : _). bytes_of v) p.its_view in
    let old : List Fault = c.loop-block.findings.items in
    let new : List Fault = c.find_blocks.new.findings.items in
    let whole : List Fault = c.args.findings.now.items ++ standing (level_tests c.args.image c.args.rva (bytes_of c.args.blocks.view) c.args.levels c.args.blocks.end c.args.blocks.at) in
    let found : new ≡ _ =
    inner_found c.args.image c.args.rva bytes below place old c.find.new.findings.items new block.start c.has_key_end.result c.levels_in-inner.result (bytes_of inner.result.view) inner.result.end inner.result.at
    (ap (λ (x : ℕ × ℕ). x.0) p.place)
    (c.has_key_end.ensures ∙ ap (λ (x : List ℕ). has_key_end x (place_of block)) its ∙ ap (has_key_end bytes) p.place)
    (c.levels_in-inner.ensures.value ∙ ap (λ (x : List ℕ). if is_read x below (place_of block) then below else 0) its ∙ ap (λ (x : ℕ × ℕ). if is_read bytes below x then below else 0) p.place)
    (ap (λ (v : _). bytes_of v) inner.ensures.view ∙ its)
    (inner.ensures.end ∙ ap (λ (x : ℕ × ℕ). x.1) p.place)
    (inner.ensures.start ∙ ap (λ (x : List ℕ). body_of x (place_of block)) its ∙ ap (body_of bytes) p.place)
    c.in_ok-find.ensures c.in_ok-find_blocks.ensures in
    record {
      view = p.view ∙ c.loop-block.invariant.view;
      end = p.end ∙ c.loop-block.invariant.end;
      found = rw (p.view, p.end, p.at) (block_found c.args.image c.args.rva bytes c.args.levels below b.end b.at (omega (arith, some)) old new whole p.there c.loop-block.invariant.found found);
    }

pub find_end-requires-clause-small : goal.find_end-requires-clause-small
find_end-requires-clause-small g t c =
    let same : size_of c.next.new.self.view ≡ size_of c.args.blocks.view = ap (λ (x : _). size_of x.view) c.in_default.ensures.1 ∙ ap (λ (v : _). size_of v) c.loop-block.invariant.view in
    let small = c.requires in
    omega (arith, same, small)

pub returns : goal.returns
returns g t c =
    let b = c.loop-block.left in
    let some = c.if-levels-eq0.false in
    let last = levels_stop c.args.image c.args.rva (bytes_of b.view) c.args.levels (c.args.levels - 1) b.end b.at (omega (arith, some)) c.in_default.ensures.0 in
    let found = c.loop-block.invariant.found in
    let after = c.in_default.ensures.1 in
    let ensured = rw (c.from.ensures, after) at c.find_end.ensures in
    rw (← found) (rw last ensured)
