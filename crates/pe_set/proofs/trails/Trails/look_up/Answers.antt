-- The trail is extended to the name, which is looked up in image `number`.
use Rattle.std.proofs.Common.{◌≡◌, ◌∙◌, ℕ, List, [], Option, Some, get_or, sym, ap, subst, refl}
use Rattle.std.specs.Prelude.{IfSome, slice_get, unwrap_or}
use Rattle.std.proofs.lemmas.Option.{slice_get-get_or}
use Rattle.pe_layout.specs.Layout.{file_of, image_of}
use Rattle.pe_tables.specs.Exports.{target_at}
use Rattle.pe_tables.specs.ExportsView.{exports_view}
use Rattle.pe_tables.specs.Key.{Key, Name}
use Rattle.pe_tables.specs.NameTrail.{IsTrailOf}
use Rattle.pe_set.specs.RememberedView.{text_at}
use Rattle.pe_set.specs.SetView.{module_view}
use Rattle.pe_set.specs.declared.reading.Module as code_module
use Rattle.pe_set.proofs.Searching.{target_is}
use Rattle.pe_set.proofs.Trailing.{in_both, trails_kept, trails_more}
use Rattle.pe_set.proofs.trails.Trails.look_up.Goals as goal

pub returns-clause-found : goal.returns-clause-found
unfolding module_view
returns-clause-found g c =
    let ms = c.args.modules.now in
    let file = file_of c.args.layout.now in
    let image = image_of c.args.layout.now in
    let number : ℕ = c.args.number in
    let m = c.index-modules-number-2.result in
    let end : ℕ = c.in-Some.text.end in
    let trail = c.take-trail.result in
    let known = trails_kept ms file c.args.self.now _ c.requires.known c.text_at.ensures.known refl in
    let there : slice_get ms number ≡ Some (get_or ms number m) = slice_get-get_or ms number m c.requires.number in
    let its = subst (λ (o : Option (code_module.Module g.row.A.Denot)). IfSome o (λ x. IsTrailOf x.image.exports file end trail)) there (c.take-trail.ensures.trail file known) in
    let text : c.in-Some.text.bytes.now ≡ text_at image c.args.rva = ap (λ (o : Option (List ℕ)). unwrap_or o []) c.in-Some.ensures.text in
    let is : m ≡ get_or ms number m = c.index-modules-number-2.is in
    let key : Key = Name (text_at image c.args.rva) in
    c.by_name_along-target.ensures.exact file c.in-Some.ensures.place its
    ∙ ap (λ (bytes : List ℕ). target_at (exports_view (get_or ms number m).image.exports) (Name bytes)) text
    ∙ sym (target_is ms m number key (target_at (exports_view (get_or ms number m).image.exports) key) c.requires.number is
    (ap (λ (x : code_module.Module g.row.A.Denot). target_at (exports_view x.image.exports) key) (sym is)))

pub returns-clause-known : goal.returns-clause-known
returns-clause-known g c =
    let ms = c.args.modules.now in
    let file = file_of c.args.layout.now in
    let number : ℕ = c.args.number in
    let m = c.index-modules-number-2.result in
    let end : ℕ = c.in-Some.text.end in
    let trail = c.take-trail.result in
    let known = trails_kept ms file c.args.self.now _ c.requires.known c.text_at.ensures.known refl in
    let there : slice_get ms number ≡ Some (get_or ms number m) = slice_get-get_or ms number m c.requires.number in
    let its = subst (λ (o : Option (code_module.Module g.row.A.Denot)). IfSome o (λ x. IsTrailOf x.image.exports file end trail)) there (c.take-trail.ensures.trail file known) in
    let on = c.by_name_along-target.new.trail in
    let after = c.take-trail.ensures.known file known in
    in_both c.insert.result _ _ _ c.insert.ensures.updates c.insert.ensures.err
    (λ updates. trails_more ms file c.take-trail.new.self _ number end on after refl
    (subst (λ (o : Option (code_module.Module g.row.A.Denot)). IfSome o (λ x. IsTrailOf x.image.exports file end on)) (sym there) (c.by_name_along-target.ensures.follows file c.in-Some.ensures.place its)) updates.0)
    (λ same. trails_kept ms file c.take-trail.new.self _ after after.ends same)

pub returns-in_default-clause-found : goal.returns-in_default-clause-found
unfolding module_view
returns-in_default-clause-found g c =
    let ms = c.args.modules.now in
    let image = image_of c.args.layout.now in
    let number : ℕ = c.args.number in
    let m = c.index-modules-number.result in
    let is : m ≡ get_or ms number m = c.index-modules-number.is in
    let key : Key = Name (text_at image c.args.rva) in
    let text : [] ≡ text_at image c.args.rva = ap (λ (o : Option (List ℕ)). unwrap_or o []) c.in_default.ensures.text in
    c.by_name.ensures
    ∙ ap (λ (bytes : List ℕ). target_at (exports_view (get_or ms number m).image.exports) (Name bytes)) text
    ∙ sym (target_is ms m number key (target_at (exports_view (get_or ms number m).image.exports) key) c.requires.number is
    (ap (λ (x : code_module.Module g.row.A.Denot). target_at (exports_view x.image.exports) key) (sym is)))
