-- Block by block, from the last node on.
use Rattle.std.proofs.Common.{◌≡◌, ◌∙◌, ◌<◌, ◌++◌, ◌∷◌, [], Some, length, ap, sym, subst, arith, append_assoc}
use Rattle.std.specs.Prelude.{slice_index_or}
use Rattle.std.proofs.Math.Nat.{div-add-mod}
use Rattle.std.proofs.lemmas.List.{length-append}
use Rattle.pe_tables.specs.LongTexts.{block, longer, Leads}
use Rattle.pe_tables.proofs.LongTexts.{grows_on, node_below, leads_on}
use Rattle.pe_tables.proofs.long_texts.LongTexts.follow.Goals as goal

pub reach-requires-clause-inside : goal.reach-requires-clause-inside
reach-requires-clause-inside g c =
    let nodes = c.loop-self.self.nodes.items in
    let path = c.loop-self.path.items in
    let text = c.args.text.now in
    let parts = div-add-mod (length text) 256 in
    let lt = c.loop-self-test.true in
    let len = c.len.ensures in
    let size = c.loop-self.path.ok in
    let at = c.loop-self.invariant.leads (length path) (omega arith) (omega (arith, parts, lt, len, size.0)) in
    let last = c.last_node.ensures ∙ ap (λ ns. slice_index_or (0 ∷ ns) (length ns) 0) c.deref.ensures.value in
    subst (λ n. n < length nodes) (sym last) (node_below nodes c.loop-self.invariant.trie c.loop-self.invariant.root text (length path) _ at)

pub loop-self-preserved : goal.loop-self-preserved
loop-self-preserved g c =
    let old = c.loop-self.self.nodes.items in
    let new = c.reach.new.self.nodes.items in
    let path = c.loop-self.path.items in
    let text = c.args.text.now in
    let parts = div-add-mod (length text) 256 in
    let lt = c.loop-self-test.true in
    let len = c.len.ensures in
    let size = c.loop-self.path.ok in
    let pushed = c.in_ok-push.ensures.items in
    let grows = c.in_ok-next.ensures.grows in
    let more = c.loop-self.invariant.goes_on in
    let last = c.last_node.ensures ∙ ap (λ ns. slice_index_or (0 ∷ ns) (length ns) 0) c.deref.ensures.value in
    let place : c.len-in-loop-self.result ≡ length path = c.len-in-loop-self.ensures ∙ size.0 in
    let there : longer new (slice_index_or (0 ∷ path) (length path) 0) (block text (length path)) ≡ Some c.in_ok-next.next =
    ap (λ n. longer new n (block text (length path))) (sym last) ∙ ap (λ k. longer new c.last_node.result (block text k)) (sym place)
    ∙ ap (λ bs. longer new c.last_node.result bs) (sym c.block.ensures) ∙ c.in_ok-next.ensures.reached in
    record {
      trie = c.in_ok-next.ensures.trie;
      paths = c.reach.ensures.paths ∙ c.loop-self.invariant.paths;
      root = let some = c.loop-self.invariant.root in let count = grows.count in omega (arith, some, count);
      grows = grows_on c.args.self.now.nodes.items old new c.loop-self.invariant.grows grows;
      leads = subst (λ ns. Leads new text ns) (sym pushed) (leads_on old new grows text path c.in_ok-next.next (omega (arith, parts, lt, len, size.0)) c.loop-self.invariant.leads there);
      goes_on = (more.0 ++ c.in_ok-next.next ∷ [], pushed ∙ ap (λ ns. ns ++ c.in_ok-next.next ∷ []) more.1 ∙ append_assoc c.args.path.now.items more.0 (c.in_ok-next.next ∷ []));
      needed = let all = ap (λ ns. length ns) pushed ∙ length-append path (c.in_ok-next.next ∷ []) in omega (arith, all, lt, len, size.0);
    }
