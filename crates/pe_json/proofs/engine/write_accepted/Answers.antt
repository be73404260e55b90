use Rattle.std.proofs.Common.{List, ℕ, ◌∙◌, ap, map, subst}
use Rattle.pe_layout.specs.Image.{image_of_file}
use Rattle.pe_tables.specs.ImportView.{import_view}
use Rattle.pe_reach.specs.Views.{seen_of}
use Rattle.pe_text.specs.TextWriter.{Adds}
use Rattle.pe_json.proofs.Members.{accepted_beyond}
use Rattle.pe_json.proofs.engine.write_accepted.Goals as goal

pub returns-clause-adds : goal.returns-clause-adds
returns-clause-adds g c =
    let file = seen_of c.args.file in
    let image = c.requires.image in
    let heads = c.headers-headers.ensures ∙ image.layout.headers in
    let imports = ap (map import_view) c.deref.ensures.value ∙ image.imports in
    let fixups = c.deref-2.ensures.value ∙ image.fixups in
    subst (λ (xs : List ℕ). Adds g.W.Sink.taken g.W.Sink.failures c.args.text.now c.write_image.new.text xs)
    (accepted_beyond c.args.beyond c.in-Some.beyond c.args.name.now file _ (image_of_file 0 file) _ _ _ _ _ _ _ c.in-Some.is c.beginning-bytes.ensures image.layout.shows c.strings.ensures heads image.layout.headers image.exports imports fixups)
    c.write_image.ensures
