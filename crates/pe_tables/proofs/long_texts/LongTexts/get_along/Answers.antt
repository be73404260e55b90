-- The trail is extended to the last block of the string, whose node has the bytes before its blocks.
use Rattle.std.proofs.Common.{◌∙◌, ℕ, ◌/◌, List, Option, length, sym, ap}
use Rattle.std.specs.Prelude.{option_and_then}
use Rattle.pe_tables.specs.LongTexts.{front, held_at}
use Rattle.pe_tables.specs.NameTrail.{node_after}
use Rattle.pe_tables.proofs.NameTrails.{node_reached, trail_on}
use Rattle.pe_tables.proofs.long_texts.LongTexts.get_along.Goals as goal

pub returns-in-Some-clause-exact : goal.returns-in-Some-clause-exact
returns-in-Some-clause-exact g c = λ file is along.
    let nodes = c.args.self.now.nodes.items in
    let text : List ℕ = c.args.text.bytes.now in
    let new : List (Option ℕ) = c.extend.new.trail.items in
    let f = c.in_ok-extend.ensures in
    let led = node_reached nodes file c.args.text.end text c.args.trail.now.items new is.inside is.bytes along f.follows f.whole in
    let last = c.node_after.ensures ∙ ap (λ (ns : List (Option ℕ)). node_after ns (length text / 256)) c.deref.ensures.value in
    c.held_at.ensures ∙ ap (held_at nodes c.in-Some.node) c.front.ensures
    ∙ sym (ap (option_and_then (λ n. held_at nodes n (front text))) (led ∙ sym last ∙ c.in-Some.is))

pub returns-in-None-clause-exact : goal.returns-in-None-clause-exact
returns-in-None-clause-exact g c = λ file is along.
    let nodes = c.args.self.now.nodes.items in
    let text : List ℕ = c.args.text.bytes.now in
    let new : List (Option ℕ) = c.extend.new.trail.items in
    let f = c.in_ok-extend.ensures in
    let led = node_reached nodes file c.args.text.end text c.args.trail.now.items new is.inside is.bytes along f.follows f.whole in
    let last = c.node_after.ensures ∙ ap (λ (ns : List (Option ℕ)). node_after ns (length text / 256)) c.deref.ensures.value in
    sym (ap (option_and_then (λ n. held_at nodes n (front text))) (led ∙ sym last ∙ c.in-None.is))

pub returns-in-Some-clause-follows : goal.returns-in-Some-clause-follows
returns-in-Some-clause-follows g c = λ file is along.
    let f = c.extend.ensures in
    trail_on c.args.self.now.nodes.items file c.args.text.end c.args.text.bytes.now c.args.trail.now.items c.extend.new.trail.items is.inside is.bytes along f.follows f.goes_on f.needed

pub returns-in-None-clause-follows : goal.returns-in-None-clause-follows
returns-in-None-clause-follows g c = λ file is along.
    let f = c.extend.ensures in
    trail_on c.args.self.now.nodes.items file c.args.text.end c.args.text.bytes.now c.args.trail.now.items c.extend.new.trail.items is.inside is.bytes along f.follows f.goes_on f.needed

pub returns-in_err-extend-clause-follows : goal.returns-in_err-extend-clause-follows
returns-in_err-extend-clause-follows g c = λ file is along.
    let f = c.extend.ensures in
    trail_on c.args.self.now.nodes.items file c.args.text.end c.args.text.bytes.now c.args.trail.now.items c.extend.new.trail.items is.inside is.bytes along f.follows f.goes_on f.needed
