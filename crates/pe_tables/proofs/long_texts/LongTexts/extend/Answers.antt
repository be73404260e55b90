-- Block by block, from the last node on, if there is one.
use Rattle.std.proofs.Common.{◌≡◌, ◌∙◌, ℕ, List, Option, ◌++◌, ◌∷◌, [], length, ap, sym, subst, arith, append_assoc}
use Rattle.std.specs.Prelude.{option_and_then}
use Rattle.std.proofs.Math.Nat.{div-add-mod}
use Rattle.std.proofs.lemmas.List.{length-append}
use Rattle.pe_tables.specs.LongTexts.{block, longer}
use Rattle.pe_tables.specs.NameTrail.{node_after, Follows}
use Rattle.pe_tables.proofs.NameTrails.{follows_on}
use Rattle.pe_tables.proofs.long_texts.LongTexts.extend.Goals as goal

pub loop-trail-preserved : goal.loop-trail-preserved
loop-trail-preserved g c =
    let nodes = c.args.self.now.nodes.items in
    let text = c.args.text.now in
    let trail = c.loop-trail.trail.items in
    let next = c.next_node-next.result in
    let parts = div-add-mod (length text) 256 in
    let lt = c.loop-trail-test.true in
    let len = c.len.ensures in
    let size = c.loop-trail.trail.ok in
    let pushed = c.in_ok-push.ensures.items in
    let more = c.loop-trail.invariant.goes_on in
    let is : next ≡ option_and_then (λ n. longer nodes n (block text (length trail))) (node_after trail (length trail)) =
    c.next_node-next.ensures ∙ ap (λ (ns : List (Option ℕ)). option_and_then (λ n. longer nodes n (block text (length ns))) (node_after ns (length ns))) c.deref-in-loop-trail.ensures.value in
    record {
      follows = λ before. subst (λ (ns : List (Option ℕ)). Follows nodes text ns) (sym pushed) (follows_on nodes text trail next (omega (arith, parts, lt, len, size.0)) (c.loop-trail.invariant.follows before) is);
      goes_on = (more.0 ++ next ∷ [], pushed ∙ ap (λ (ns : List (Option ℕ)). ns ++ next ∷ []) more.1 ∙ append_assoc c.args.trail.now.items more.0 (next ∷ []));
      needed = let all = ap (λ (ns : List (Option ℕ)). length ns) pushed ∙ length-append trail (next ∷ []) in omega (arith, all, lt, len, size.0);
    }
