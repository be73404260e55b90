-- The trail was known, or has no name; the others remain.
use Rattle.std.proofs.Common.{◌≡◌, ◌∙◌, get_or, sym, subst, refl}
use Rattle.std.specs.Prelude.{slice_get}
use Rattle.std.proofs.lemmas.Option.{same_Some, slice_get-get_or}
use Rattle.pe_tables.specs.NameTrail.{IsTrailOf}
use Rattle.pe_set.specs.declared.reading.Module as code_module
use Rattle.pe_set.proofs.Trailing.{if_some, trails_less}
use Rattle.pe_set.proofs.trails.Trails.take.Goals as goal

pub returns-in-Some-clause-trail : goal.returns-in-Some-clause-trail
returns-in-Some-clause-trail g c = λ file known.
    if_some _ (slice_get c.args.modules.now c.args.number) (λ m there. known.right c.args.number c.args.end c.in-Some.trail m (sym c.in-Some.ensures.value) there)

pub returns-in-Some-clause-known : goal.returns-in-Some-clause-known
returns-in-Some-clause-known g c = λ file known. trails_less c.args.modules.now file c.args.self.now _ (c.args.number, c.args.end) known refl c.remove.ensures.updates.0

pub returns-in-None-clause-trail : goal.returns-in-None-clause-trail
returns-in-None-clause-trail g c = λ file known.
    let ms = c.args.modules.now in
    let first = c.index-modules-number.result in
    if_some _ (slice_get ms c.args.number) (λ m there.
    let here : get_or ms c.args.number first ≡ m = same_Some _ _ (sym (slice_get-get_or ms c.args.number first c.requires) ∙ there) in
    subst (λ (x : code_module.Module g.row.A.Denot). IsTrailOf x.image.exports file c.args.end c.name_trail.result) here (c.name_trail.ensures file c.args.end))

pub returns-in-None-clause-known : goal.returns-in-None-clause-known
returns-in-None-clause-known g c = λ file known. trails_less c.args.modules.now file c.args.self.now _ (c.args.number, c.args.end) known refl c.remove.ensures.updates.0
