-- The rows are those of the tables of the file's image, or a refusal is reported.
use Rattle.std.proofs.Common.{◌∙◌, Err, length, ap}
use Rattle.std.specs.Prelude.{map}
use Rattle.pe_records_c.specs.ExportRows.{export_text, export_by_ordinal, export_by_name, named}
use Rattle.pe_records_c.specs.FixupRows.{fixup_row}
use Rattle.pe_records_c.specs.ImportRows.{import_text, import_row}
use Rattle.pe_records_c.specs.Rows.{filled}
use Rattle.pe_records_c.proofs.Telling.{none_told, refusal_told, no_refusal, told_refuses, accepted_or_refused}
use Rattle.petool_c.proofs.tables.petool_tables.Goals as goal

pub returns-in-Ok-clause-faults : goal.returns-in-Ok-clause-faults
returns-in-Ok-clause-faults c =
    let accepted = no_refusal _ _ c.put_image.ensures.status in
    none_told _ _ _ _ c.in-Ok.ensures.exact.0 accepted.0 accepted.1

pub returns-in-Ok-clause-exports : goal.returns-in-Ok-clause-exports
returns-in-Ok-clause-exports c = λ _. c.put_image.ensures.exports ∙ ap (λ e. filled export_by_ordinal e.ordinals (map export_text c.args.exports.now)) c.in-Ok.ensures.exact.1.exports

pub returns-in-Ok-clause-names : goal.returns-in-Ok-clause-names
returns-in-Ok-clause-names c = λ _. c.put_image.ensures.names ∙ ap (λ e. filled export_by_name (named e) (map export_text c.args.names.now)) c.in-Ok.ensures.exact.1.exports

pub returns-in-Ok-clause-imports : goal.returns-in-Ok-clause-imports
returns-in-Ok-clause-imports c = λ _. c.put_image.ensures.imports ∙ ap (λ m. filled import_row m (map import_text c.args.imports.now)) c.in-Ok.ensures.exact.1.imports

pub returns-in-Ok-clause-fixups : goal.returns-in-Ok-clause-fixups
returns-in-Ok-clause-fixups c = λ _. c.put_image.ensures.fixups ∙ ap (λ f. filled fixup_row f c.args.fixups.now) c.in-Ok.ensures.exact.1.fixups

pub returns-in-Ok-clause-counts : goal.returns-in-Ok-clause-counts
returns-in-Ok-clause-counts c = λ _.
    let told = c.put_image.ensures in
    let read = c.in-Ok.ensures.exact.1 in
    record {
      exports = told.exports_count ∙ ap (λ e. length e.ordinals) read.exports;
      names = told.names_count ∙ ap (λ e. length e.names) read.exports;
      imports = told.imports_count ∙ ap length read.imports;
      fixups = told.fixups_count ∙ ap length read.fixups;
    }

pub returns-in-Ok-clause-exports_kept : goal.returns-in-Ok-clause-exports_kept
returns-in-Ok-clause-exports_kept c = λ refused. accepted_or_refused _ (no_refusal _ _ c.put_image.ensures.status) refused

pub returns-in-Ok-clause-names_kept : goal.returns-in-Ok-clause-names_kept
returns-in-Ok-clause-names_kept c = λ refused. accepted_or_refused _ (no_refusal _ _ c.put_image.ensures.status) refused

pub returns-in-Ok-clause-imports_kept : goal.returns-in-Ok-clause-imports_kept
returns-in-Ok-clause-imports_kept c = λ refused. accepted_or_refused _ (no_refusal _ _ c.put_image.ensures.status) refused

pub returns-in-Ok-clause-fixups_kept : goal.returns-in-Ok-clause-fixups_kept
returns-in-Ok-clause-fixups_kept c = λ refused. accepted_or_refused _ (no_refusal _ _ c.put_image.ensures.status) refused

pub returns-in-Ok-clause-counts_kept : goal.returns-in-Ok-clause-counts_kept
returns-in-Ok-clause-counts_kept c = λ refused. accepted_or_refused _ (no_refusal _ _ c.put_image.ensures.status) refused

pub returns-in-Err-clause-faults : goal.returns-in-Err-clause-faults
returns-in-Err-clause-faults c = refusal_told _ _ c.in-Err.refusal _ _ _ c.in-Err.ensures.exact (λ e. c.in-Err.ensures.memory (ap Err e)) c.refuse_for.ensures

pub returns-in-Err-clause-exports : goal.returns-in-Err-clause-exports
returns-in-Err-clause-exports c = λ accepted. told_refuses _ _ _ _ c.refuse_for.ensures accepted

pub returns-in-Err-clause-names : goal.returns-in-Err-clause-names
returns-in-Err-clause-names c = λ accepted. told_refuses _ _ _ _ c.refuse_for.ensures accepted

pub returns-in-Err-clause-imports : goal.returns-in-Err-clause-imports
returns-in-Err-clause-imports c = λ accepted. told_refuses _ _ _ _ c.refuse_for.ensures accepted

pub returns-in-Err-clause-fixups : goal.returns-in-Err-clause-fixups
returns-in-Err-clause-fixups c = λ accepted. told_refuses _ _ _ _ c.refuse_for.ensures accepted

pub returns-in-Err-clause-counts : goal.returns-in-Err-clause-counts
returns-in-Err-clause-counts c = λ accepted. told_refuses _ _ _ _ c.refuse_for.ensures accepted

pub returns-in-Err-clause-status : goal.returns-in-Err-clause-status
returns-in-Err-clause-status c = λ accepted. told_refuses _ _ _ _ c.refuse_for.ensures accepted
