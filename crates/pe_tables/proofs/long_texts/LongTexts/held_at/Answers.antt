-- The node is there, and its map is read.
use Rattle.std.proofs.Common.{◌≡◌, ◌∙◌, Some, sym, ap}
use Rattle.std.specs.Prelude.{slice_get}
use Rattle.pe_tables.proofs.TextMap.{by_bytes}
use Rattle.pe_tables.proofs.LongTexts.{node_at, target_at}
use Rattle.pe_tables.proofs.long_texts.LongTexts.held_at.Goals as goal

pub returns : goal.returns
returns g c =
    let nodes = c.args.self.now.nodes.items in
    let node = c.in_ok-get.field-0.now in
    let found = c.in_ok-get.ensures.lookup in
    let at : slice_get nodes c.args.node ≡ Some node =
    ap (λ ns. slice_get ns c.args.node) (sym c.deref.ensures.value) ∙ node_at c.deref.result.now c.args.node node found.3.0 (found.3.1 node) in
    c.copied.ensures ∙ c.get-2.ensures.value ∙ by_bytes c.args.front.now node.targets.entries ∙ sym (target_at nodes c.args.node node c.args.front.now at)
