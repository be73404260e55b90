use Rattle.std.proofs.Common.{◌==◌, Option, ap, subst, sym, refl, ◌∙◌}
use Rattle.std.specs.Prelude.{option_map}
use Rattle.pe_tables.specs.ImportView.{import_view}
use Rattle.pe_tables.specs.Imports.{Import}
use Rattle.pe_records_c.specs.ImportRows.{TellsImport}
use Rattle.pe_records_c.proofs.Found.{found_shown}
use Rattle.pe_records_c.proofs.import.put_import.Goals as goal

pub returns-in-Some : goal.returns-in-Some
returns-in-Some c =
    let found = ap (option_map import_view) c.in-Some.ensures ∙ sym (found_shown import_view (λ (x : Import). x.slot == c.args.slot) c.args.imports.now) in
    subst (λ (o : Option Import). TellsImport o c.args.told.now c.of.result 0) found (refl, c.of.ensures)

pub returns-in-None : goal.returns-in-None
returns-in-None c =
    let found = ap (option_map import_view) c.in-None.ensures ∙ sym (found_shown import_view (λ (x : Import). x.slot == c.args.slot) c.args.imports.now) in
    subst (λ (o : Option Import). TellsImport o c.args.told.now c.args.told.now 3) found (refl, refl)
