use Rattle.std.proofs.Common.{List, ℕ, ◌++◌, ◌∙◌, ap, ap₂, subst}
use Rattle.pe_image.specs.ImageOf.{unless}
use Rattle.pe_layout.specs.Image.{LaidOut}
use Rattle.pe_tables.specs.ImportFaults.{import_tests}
use Rattle.pe_tables.specs.Imports.{imports_of}
use Rattle.pe_reach.specs.Views.{seen_of, told_of}
use Rattle.pe_text.specs.TextWriter.{Adds}
use Rattle.pe_json.specs.Refused.{refused_line}
use Rattle.pe_json.proofs.Members.{laid_out, own_laid_out}
use Rattle.pe_json.proofs.engine.write_laid_out.Goals as goal

pub returns-clause-adds : goal.returns-clause-adds
returns-clause-adds g c =
    let image = c.args.image in
    let file = seen_of image.file in
    let tables = c.in_ok-tables.ensures.tables in
    let shown = c.requires.layout.shows in
    let members = laid_out file image.headers.now _ _ _ _ c.requires.headers shown c.requires.sound tables.exports tables.imports tables.fixups in
    let own = own_laid_out image.beyond file image.headers.now _ c.requires.headers c.requires.sound (tables.imports ∙ ap (λ (i : LaidOut). unless (import_tests i) (imports_of i)) shown) in
    subst (λ (xs : List (List ℕ)). Adds g.W.Sink.taken g.W.Sink.failures c.args.text.now c.refuse_laid_out.new.text (refused_line image.name.now file (told_of image.file) image.fault.now xs))
    (ap₂ (λ (xs ys : List (List ℕ)). xs ++ ys) members own) c.refuse_laid_out.ensures
