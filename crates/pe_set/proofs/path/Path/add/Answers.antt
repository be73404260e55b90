-- The path has the place, or gets it at its end.
use Rattle.std.proofs.Common.{◌≡◌, ◌∙◌, ◌∷◌, [], length, map, refl, sym, ap, arith}
use Rattle.std.proofs.lemmas.List.{map-append, length-map}
use Rattle.std.proofs.lemmas.Option.{slice_get_within}
use Rattle.pe_set.specs.StandView.{stand_view}
use Rattle.pe_set.specs.PathView.{path_view}
use Rattle.pe_set.proofs.Pathing.{index_of_place, new_place, path_longer}
use Rattle.pe_set.proofs.path.Path.add.Goals as goal

pub overflow_sub-result : goal.overflow_sub-result
overflow_sub-result g c =
    let path = c.args.self.now in
    let there = index_of_place (path_view path) path.hops.entries c.requires.whole c.args.at c.in-Some.before.now (sym c.in-Some.ensures.value) in
    let lt = slice_get_within (path_view path) c.in-Some.before.now (stand_view c.args.at) there in
    let count = length-map path.stands.items stand_view in
    let len = c.len-hops.ensures in
    omega (arith, lt, count, len)

pub returns-in-Some-clause-adds : goal.returns-in-Some-clause-adds
returns-in-Some-clause-adds g c =
    let path = c.args.self.now in
    let there = index_of_place (path_view path) path.hops.entries c.requires.whole c.args.at c.in-Some.before.now (sym c.in-Some.ensures.value) in
    let count = length-map path.stands.items stand_view in
    let len = c.len-hops.ensures in
    (refl, c.in-Some.before.now, there, omega (arith, count, len))

pub returns-clause-whole : goal.returns-clause-whole
returns-clause-whole g c =
    let path = c.args.self.now in
    let none = sym c.in_default.ensures.value in
    let items = ap (map stand_view) c.in_ok-push.ensures.items ∙ map-append stand_view path.stands.items (c.args.at ∷ []) in
    let is = c.len-hops.ensures in
    let count = length-map path.stands.items stand_view in
    let len : c.len-hops.result ≡ length (path_view path) = omega (arith, is, count) in
    rw (items, c.in_ok-insert.ensures.entries, len) (path_longer (path_view path) path.hops.entries c.requires.whole c.args.at none)

pub returns-clause-adds : goal.returns-clause-adds
returns-clause-adds g c =
    let path = c.args.self.now in
    let none = sym c.in_default.ensures.value in (
      ap (map stand_view) c.in_ok-push.ensures.items ∙ map-append stand_view path.stands.items (c.args.at ∷ []),
      new_place (path_view path) path.hops.entries c.requires.whole c.args.at none,
    )
