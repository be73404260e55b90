-- Each import has the string at its RVA.
use Rattle.std.proofs.Common.{◌≡◌, ℕ, List, sym, subst}
use Rattle.std.proofs.lemmas.Result.{IfOk-weaker}
use Rattle.pe_layout.specs.Layout.{image_of}
use Rattle.pe_tables.specs.ImportNames.{import_names_of, AreNamedAt}
use Rattle.pe_tables.specs.Imports.{Import, imports_of}
use Rattle.std.specs.declared.vec.Vec.{Vec}
use Rattle.pe_set.proofs.remembered.places_of.Goals as goal

pub returns : goal.returns
returns g c =
    let image = image_of c.args.layout.now in
    IfOk-weaker c.import_name_rvas.result (λ (names : Vec ℕ g.row.A.Denot). names.items ≡ import_names_of image) _ (λ names is.
    subst (λ (xs : List Import). AreNamedAt image names.items xs) (sym c.requires) (subst (λ (rvas : List ℕ). AreNamedAt image rvas (imports_of image)) (sym is) (c.imports_have_their_names.ensures image)))
    c.import_name_rvas.ensures.exact
