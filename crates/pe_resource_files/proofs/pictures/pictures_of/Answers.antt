use Rattle.std.proofs.Common.{◌≡◌, ◌∙◌, ◌+◌, ◌≤◌, ◌∷◌, [], ℕ, List, length, Some, ap, sym, length-append, arith}
use Rattle.std.specs.Prelude.{map, option_map}
use Rattle.std.proofs.lemmas.List.{map-append}
use Rattle.pe_view.specs.View.{bytes_of}
use Rattle.pe_layout.specs.Layout.{image_of}
use Rattle.pe_resource_files.specs.Group.{pair_of}
use Rattle.pe_resource_files.specs.declared.group.Picture.{Picture}
use Rattle.pe_resource_files.proofs.EntryByEntry.{missing, one_more}
use Rattle.pe_resource_files.proofs.pictures.pictures_of.Goals as goal

pub returns-in_default : goal.returns-in_default
returns-in_default g c =
    let i = image_of c.args.layout.now in
    let by_id = c.args.by_id.now in
    let under = c.loop-index-test.true in
    record {
      count = tt;
      pictures = sym (missing i by_id.leaves.now by_id.kind (bytes_of c.args.group) c.loop-index.index c.args.count _ (omega (arith, under)) c.loop-index.invariant.pictures
          (sym c.picture_at.ensures ∙ ap (option_map pair_of) c.in_default.is));
    }

pub loop-index-preserved : goal.loop-index-preserved
loop-index-preserved g c =
    let i = image_of c.args.layout.now in
    let by_id = c.args.by_id.now in
    let before : List Picture = c.loop-index.pictures.items in
    let picture : Picture = c.in-Some.picture in
    record {
      count = ap (λ (pictures : List Picture). length pictures) c.in_ok-push.ensures.items ∙ length-append before (picture ∷ []) ∙ ap (λ (n : ℕ). n + 1) c.loop-index.invariant.count;
      pictures = one_more i by_id.leaves.now by_id.kind (bytes_of c.args.group) c.loop-index.index (map pair_of before) (pair_of picture) c.loop-index.invariant.pictures
          (sym c.picture_at.ensures ∙ ap (option_map pair_of) c.in-Some.is)
          ∙ ap (λ (pictures : List (ℕ × List ℕ)). Some pictures) (sym (map-append pair_of before (picture ∷ [])) ∙ ap (map pair_of) (sym c.in_ok-push.ensures.items));
    }
