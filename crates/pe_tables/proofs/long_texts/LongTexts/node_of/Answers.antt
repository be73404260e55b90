-- Block by block.
use Rattle.std.proofs.Common.{◌≡◌, ◌∙◌, ℕ, ◌+◌, ◌-◌, ◌/◌, None, length, sym, ap, arith}
use Rattle.std.specs.Prelude.{option_and_then}
use Rattle.pe_tables.specs.LongTexts.{block, longer, node_of}
use Rattle.pe_tables.proofs.LongTexts.{node_after, none_on}
use Rattle.pe_tables.proofs.long_texts.LongTexts.node_of.Goals as goal

pub loop-index-preserved : goal.loop-index-preserved
loop-index-preserved g c =
    let nodes = c.args.self.now.nodes.items in
    let text = c.args.text.now in
    let k : ℕ = c.loop-index.index in
    let lt = c.loop-index-test.true in
    record {
      bound = omega (arith, lt);
      node =
          node_after nodes text k ∙ ap (option_and_then (λ n. longer nodes n (block text k))) c.loop-index.invariant.node
          ∙ ap (λ bs. longer nodes c.loop-index.node bs) (sym c.block.ensures) ∙ sym c.longer.ensures ∙ c.in_ok-node.was;
    }

pub returns-in_err-node : goal.returns-in_err-node
returns-in_err-node g c =
    let nodes = c.args.self.now.nodes.items in
    let text = c.args.text.now in
    let k : ℕ = c.loop-index.index in
    let count : ℕ = length text / 256 in
    let lt = c.loop-index-test.true in
    let here : node_of nodes text (k + 1) ≡ None =
    node_after nodes text k ∙ ap (option_and_then (λ n. longer nodes n (block text k))) c.loop-index.invariant.node ∙ ap (λ bs. longer nodes c.loop-index.node bs) (sym c.block.ensures) ∙ sym c.longer.ensures ∙ c.in_err-node.was in
    let all : count - (k + 1) + (k + 1) ≡ count = omega (arith, lt) in
    c.from_residual.ensures ∙ sym (none_on nodes text (k + 1) (count - (k + 1)) here) ∙ ap (node_of nodes text) all
