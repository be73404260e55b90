-- The root is held, or it is not.
use Rattle.std.proofs.Common.{◌∙◌, sym, ap, arith, subst, ◌≤◌}
use Rattle.std.proofs.lemmas.Bool.{leb-true}
use Rattle.pe_layout.specs.Layout.{image_of, size_small}
use Rattle.pe_resources.specs.Walk.{nothing, read_directory}
use Rattle.pe_resources.specs.Found.{Shows}
use Rattle.pe_resources.proofs.Entries.{tree_held, tree_missing}
use Rattle.pe_resources.proofs.walk.read_tree.Goals as goal

pub returns-then-not-holds-clause-shows : goal.returns-then-not-holds-clause-shows
returns-then-not-holds-clause-shows g c =
    let s = c.in-Some.section in
    tree_missing c.find.new.self (image_of c.args.layout.now) (image_of s.layout.now) s.start c.holds.result
    (sym c.in-Some.ensures.start) (ap (λ (l : _). image_of l.now) c.in-Some.ensures.layout) c.holds.ensures c.if-not-holds.true
    (c.in_ok-find.ensures.shows nothing c.new-found.ensures.shows)

pub read_directory-requires-clause-small : goal.read_directory-requires-clause-small
read_directory-requires-clause-small g c =
    let s = c.in-Some.section in
    let held : 16 ≤ (image_of s.layout.now).raw_left s.start = leb-true _ _ (sym c.holds.ensures ∙ c.if-not-holds.false) in
    let some = s.held in
    let inside = s.inside (omega (arith, held, some)) in
    let small = size_small s.layout.now in
    omega (arith, inside, small)

pub returns-clause-shows : goal.returns-clause-shows
returns-clause-shows g c =
    let s = c.in-Some.section in
    tree_held c.read_directory.new.found (image_of c.args.layout.now) (image_of s.layout.now) s.start c.holds.result
    (sym c.in-Some.ensures.start) (ap (λ (l : _). image_of l.now) c.in-Some.ensures.layout) c.holds.ensures c.if-not-holds.false
    (subst (λ (p : _). Shows c.read_directory.new.found (read_directory (image_of s.layout.now) s.start 3 p 0 nothing)) c.none.ensures
    (c.in_ok-read_directory.ensures.shows nothing c.new-found.ensures.shows))
