-- The export at the guessed index has the name, and is stored for it.
use Rattle.std.proofs.Common.{◌≡◌, ℕ, List, [], true, get_or, sym, subst, Some, rules}
use Rattle.std.specs.Borrow.{Bor}
use Rattle.std.specs.Prelude.{All}
use Rattle.std.specs.Str.{bytes_eq}
use Rattle.std.proofs.lemmas.Slice.Eq.{bytes_eq-Decides}
use Rattle.pe_tables.specs.NameIndex.{held}
use Rattle.pe_tables.specs.declared.key.Target.{Target}
use Rattle.pe_tables.specs.declared.key.Target.TheVariants.{Rva}
use Rattle.pe_tables.proofs.export_lookup.Exports.export_at.Goals as goal

-- an export, for a list of them to be read by
abbrev no_export : Bor (List ℕ) × Target
no_export = (record { ref_ptr = (0, 0); now = [] }, Rva 0)

pub returns : goal.returns
returns g c =
    let names = c.args.self.now.names in
    let exports = c.as_slice-exports.result.now in
    let index : ℕ = c.args.index in
    let AreHeldIn : List (Bor (List ℕ) × Target) → Type 0 = λ es. All (λ export. held names export.0.now ≡ Some (Some export.1)) es in
    let here = subst AreHeldIn (sym c.as_slice-exports.ensures.value) c.args.self.now.held index no_export c.if-index-exports.false in
    let same : bytes_eq (get_or exports index no_export).0.now c.args.name.now ≡ true = search rules in
    let text = (bytes_eq-Decides (get_or exports index no_export).0.now c.args.name.now).0 same in
    subst (λ (text : List ℕ). held names text ≡ Some (Some (get_or exports index no_export).1)) text here
