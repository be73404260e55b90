-- Each image of a set has its own imports, and each name at its RVA.
use Rattle.std.proofs.Common.{◌≡◌, ◌∙◌, ℕ, ◌+◌, ◌<◌, List, [], ◌∷◌, length, get_or, Option, None, Some, All, refl, sym, ap, subst}
use Rattle.std.specs.Prelude.{IfSome, slice_get}
use Rattle.std.proofs.lemmas.List.{get_or-map, length-map}
use Rattle.std.proofs.lemmas.List.Elements.{All-nil, All-cons}
use Rattle.pe_layout.specs.Image.{LaidOut}
use Rattle.pe_layout.specs.Layout.{image_of}
use Rattle.pe_tables.specs.ImportNames.{IsNamedAt, AreNamedAt}
use Rattle.pe_tables.specs.Imports.{Import, imports_of}
use Rattle.pe_set.specs.Set.{Entry, Module, module_of, modules_from, modules_of}
use Rattle.pe_set.specs.SetView.{module_view, modules_view}
use Rattle.pe_set.specs.declared.reading.Module as code_module

abbrev pub HasOwn : Module → Type 0
HasOwn m = m.imports ≡ imports_of m.image

own_from : (n : ℕ) (es : List Entry) → All HasOwn (modules_from n es)
own_from n [] = All-nil HasOwn
own_from n (e ∷ es) = All-cons HasOwn (module_of n e) (modules_from (n + 1) es) refl (own_from (n + 1) es)

pub all_own : (es : List Entry) → All HasOwn (modules_of es)
unfolding modules_of
all_own es = own_from 0 es

pub own_image : {A : Type 0} (m : code_module.Module A) → (module_view m).image ≡ image_of m.image.layout
unfolding module_view
own_image m = refl

-- an image of them has its own
pub own_at : {A : Type 0} (ms : List (code_module.Module A)) (i : ℕ) (m : code_module.Module A) → i < length ms → m ≡ get_or ms i m → All HasOwn (modules_view ms) → HasOwn (module_view m)
own_at ms i m lt is all =
    let here : get_or (modules_view ms) i (module_view m) ≡ module_view m = get_or-map module_view ms i m (module_view m) lt ∙ ap module_view (sym is) in
    let inside : i < length (modules_view ms) = rw (length-map ms module_view) lt in
    subst HasOwn here (all i (module_view m) inside)

-- an import whose RVA is known has the string there
pub named_here : (image : LaidOut) (rvas : List ℕ) (imports : List Import) (k : ℕ) (x : Import) → AreNamedAt image rvas imports → slice_get imports k ≡ Some x
    → (o : Option ℕ) → slice_get rvas k ≡ o → IfSome o (λ rva. IsNamedAt image rva x)
named_here image rvas imports k x named here None is = tt
named_here image rvas imports k x named here (Some rva) is = named k rva x is here
