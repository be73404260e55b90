-- One import after the other, and the RVA of its name.
use Rattle.std.proofs.Common.{◌≡◌, ◌∙◌, ℕ, ◌+◌, List, [], ◌∷◌, ◌++◌, not, map, sym, ap, append_assoc}
use Rattle.std.proofs.lemmas.Bool.{and_parts}
use Rattle.std.proofs.lemmas.List.{map-append}
use Rattle.pe_layout.specs.Layout.{image_of}
use Rattle.pe_tables.specs.Imports.{Import}
use Rattle.pe_tables.specs.ImportView.{import_view}
use Rattle.pe_tables.specs.declared.import.Import as code
use Rattle.pe_delay.specs.Entries.{entry_at, imports_by, is_placed, lacks_name}
use Rattle.pe_delay.specs.Names.{names_by}
use Rattle.pe_delay.proofs.Naming.{names_next}
use Rattle.pe_delay.proofs.reading.push_imports.Goals as goal

pub name_place-requires : goal.name_place-requires
name_place-requires g c =
    let i = image_of c.args.layout.now in
    let t = c.args.tables.now in
    let k : ℕ = c.loop-import.index in
    let next = c.in-Some.ensures.next in
    let named = names_next i t c.args.«module».now c.args.most k _ _ next.0 next.2 in
    (and_parts (is_placed i t (entry_at i t k)) (not (lacks_name i t (entry_at i t k).value)) named.0).0

pub loop-import-preserved : goal.loop-import-preserved
loop-import-preserved g c =
    let i = image_of c.args.layout.now in
    let t = c.args.tables.now in
    let m = c.args.«module».now in
    let most : ℕ = c.args.most in
    let k : ℕ = c.loop-import.index in
    let inv = c.loop-import.invariant in
    let next = c.in-Some.ensures.next in
    let named = names_next i t m most k _ _ next.0 next.2 in
    let old : List code.Import = c.loop-import.found.imports.items in
    let names : List ℕ = c.loop-import.found.name_rvas.items in
    let rest : List Import = imports_by i t m most (k + 1) in
    let names_rest : List ℕ = names_by i t most (k + 1) in (
      ap (λ (xs : List code.Import). map import_view xs ++ rest) c.in_ok-push.ensures.items
          ∙ ap (λ (xs : List Import). xs ++ rest) (map-append import_view old (c.in-Some.import ∷ []))
          ∙ append_assoc (map import_view old) (import_view c.in-Some.import ∷ []) rest
          ∙ ap (λ (xs : List Import). map import_view old ++ xs) (sym next.2)
          ∙ inv.0,
      (λ some. inv.1 (λ none. let clash : import_view c.in-Some.import ∷ rest ≡ [] = sym next.2 ∙ none in absurd cc)),
      c.in-Some.ensures.known,
      ap (λ (xs : List ℕ). xs ++ names_rest) c.in_ok-push-2.ensures.items
          ∙ append_assoc names (c.name_place.result ∷ []) names_rest
          ∙ ap (λ (n : ℕ). names ++ n ∷ names_rest) c.name_place.ensures
          ∙ ap (λ (xs : List ℕ). names ++ xs) (sym named.1)
          ∙ inv.3,
    )
