use Rattle.std.proofs.Common.{rules, ◌∙◌, sym, Bool, ap}
use Rattle.std.specs.Prelude.{nat_le, ◌||◌}
use Rattle.std.specs.List.{list_any}
use borrow.Author.Tests.{tests}
use Rattle.std.proofs.lemmas.Iterator.{YieldsList-from_slice}
use Rattle.std.proofs.lemmas.Iterator.Search.{any_from_yields_List}
use Rattle.coff_read.specs.declared.relocation.Relocation.{Relocation}
use Rattle.coff_read.proofs.form.is_bad_section.Goals as goal

pub returns-else-is_bad_raw : goal.returns-else-is_bad_raw
returns-else-is_bad_raw g c =
    let relocations = c.args.section.now.relocations.items in
    let any = any_from_yields_List (λ (r : Relocation). nat_le c.args.records r.symbol) _ _ c.any.result c.any.ensures.ran (YieldsList-from_slice relocations (c.iter.ensures.rest ∙ c.deref.ensures.value)) (λ x b q k. search (rules, tests)) in
    let fine = sym c.is_bad_raw.ensures ∙ c.if-is_bad_raw.false in
    any ∙ ap (λ (b : Bool). b || list_any (λ (r : Relocation). nat_le c.args.records r.symbol) relocations) (sym fine)
