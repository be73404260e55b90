-- A search that is remembered ended as that for its import does.
use Rattle.std.proofs.Common.{◌≡◌, ◌∙◌, ℕ, List, Option, sym, ap, subst}
use Rattle.std.specs.Prelude.{IfSome}
use Rattle.std.proofs.lemmas.Option.{IfSome_then}
use Rattle.pe_layout.specs.Layout.{image_of}
use Rattle.pe_tables.specs.ImportNames.{IsNamedAt}
use Rattle.pe_tables.specs.ImportView.{import_view}
use Rattle.pe_tables.specs.Key.{Key, key_view, Name}
use Rattle.pe_set.specs.Search.{resolve}
use Rattle.pe_set.specs.SetView.{modules_view}
use Rattle.pe_set.specs.RememberedView.{text_at, StandsFor}
use Rattle.pe_set.proofs.Trailing.{second_of}
use Rattle.pe_set.proofs.search.resolve_once.Goals as goal

pub returns-in-Some : goal.returns-in-Some
returns-in-Some g c =
    let s = modules_view c.args.modules.now in
    let image = image_of c.args.layout.now in
    let import = c.args.import.now in
    let name : List ℕ = import.«module».now in
    let key : Key = key_view import.key in
    let stands : StandsFor s image c.query_of-query.result name key =
    IfSome_then c.query_of-query.result c.query_of-query.ensures (λ p h.
    let named_there = subst (λ (o : Option ℕ). IfSome o (λ rva. IsNamedAt image rva (import_view import))) h.1 c.requires.placed in
    (sym c.requires.image ∙ h.0, h.2.1 ∙ ap (λ (text : List ℕ). Name text) (named_there h.2.0 h.2.1))) in
    let is = c.find.ensures s image name key c.requires.remembered stands in
    record { exact = sym (subst (λ o. IfSome o (λ end. resolve s name key ≡ end)) c.in-Some.is is); known = c.requires.known; remembered = c.requires.remembered; trails = c.requires.trails }

pub resolve-requires-clause-placed : goal.resolve-requires-clause-placed
resolve-requires-clause-placed g c =
    let s = modules_view c.args.modules.now in
    let image = image_of c.args.layout.now in
    let import = c.args.import.now in
    let name : List ℕ = import.«module».now in
    let key : Key = key_view import.key in
    let stands : StandsFor s image c.query_of-query.result name key =
    IfSome_then c.query_of-query.result c.query_of-query.ensures (λ p h.
    let named_there = subst (λ (o : Option ℕ). IfSome o (λ rva. IsNamedAt image rva (import_view import))) h.1 c.requires.placed in
    (sym c.requires.image ∙ h.0, h.2.1 ∙ ap (λ (text : List ℕ). Name text) (named_there h.2.0 h.2.1))) in
    let P : ℕ → Type 0 = λ rva. key ≡ Name (text_at image rva) in
    subst (λ (o : Option ℕ). IfSome o P) (sym c.place_of-place.ensures)
    (second_of P c.query_of-query.result (IfSome_then c.query_of-query.result stands (λ p h. h.1)))

pub returns-clause-remembered : goal.returns-clause-remembered
returns-clause-remembered g c =
    let s = modules_view c.args.modules.now in
    let image = image_of c.args.layout.now in
    let import = c.args.import.now in
    let name : List ℕ = import.«module».now in
    let key : Key = key_view import.key in
    let stands : StandsFor s image c.query_of-query.result name key =
    IfSome_then c.query_of-query.result c.query_of-query.ensures (λ p h.
    let named_there = subst (λ (o : Option ℕ). IfSome o (λ rva. IsNamedAt image rva (import_view import))) h.1 c.requires.placed in
    (sym c.requires.image ∙ h.0, h.2.1 ∙ ap (λ (text : List ℕ). Name text) (named_there h.2.0 h.2.1))) in
    c.in_ok-keep.ensures s image name key c.requires.remembered stands (sym c.in_ok-end.ensures.exact)
