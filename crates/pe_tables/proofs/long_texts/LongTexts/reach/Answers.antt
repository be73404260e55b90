-- The new node has one block more than the one that leads to it.
use Rattle.std.proofs.Common.{◌∙◌, ℕ, Option, Some, length, ap}
use Rattle.std.specs.Prelude.{◌==◌, ◌&&◌, if◌then◌else◌}
use Rattle.std.specs.Str.{bytes_eq}
use Rattle.pe_tables.specs.LongTexts.{longer}
use Rattle.pe_tables.proofs.LongTexts.{grown_trie}
use Rattle.pe_tables.proofs.long_texts.LongTexts.reach.Goals as goal

pub returns-clause-trie : goal.returns-clause-trie
returns-clause-trie g c =
    let old = c.args.self.now.nodes.items in
    let block = c.args.block.now in
    grown_trie old c.link.new.self.nodes.items c.args.node block c.requires.trie c.requires.inside (c.in_ok-link.ensures.count ∙ c.in_ok-add_node.ensures.count)
    (λ n other. c.in_ok-link.ensures.links n other
    ∙ ap (λ (k : ℕ). if n == c.args.node && bytes_eq other block then Some k else longer c.add_node.new.self.nodes.items n other) (c.len-next.ensures ∙ c.args.self.now.nodes.ok.0)
    ∙ ap (λ (o : Option ℕ). if n == c.args.node && bytes_eq other block then Some (length old) else o) (c.in_ok-add_node.ensures.same n other).0)
