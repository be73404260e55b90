-- The map of one node has one entry more.
use Rattle.std.proofs.Common.{refl}
use Rattle.pe_tables.proofs.LongTexts.{node_at, target_set, longer_kept}
use Rattle.pe_tables.proofs.long_texts.LongTexts.set_target.Goals as goal

pub returns-clause-targets : goal.returns-clause-targets
returns-clause-targets g c = λ n bytes.
    let nodes = c.args.self.now.nodes.items in
    let old = c.index_mut.result.now in
    target_set nodes c.args.node old _ (node_at nodes c.args.node old c.requires c.index_mut.ensures.value) c.args.front c.args.target c.in_ok-insert.ensures.entries n bytes

pub returns-clause-links : goal.returns-clause-links
returns-clause-links g c = λ n bytes.
    let nodes = c.args.self.now.nodes.items in
    let old = c.index_mut.result.now in
    longer_kept nodes c.args.node old _ (node_at nodes c.args.node old c.requires c.index_mut.ensures.value) refl n bytes
