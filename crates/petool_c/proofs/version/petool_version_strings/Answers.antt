-- What is told of the image holds for that of the file.
use Rattle.std.proofs.Common.{subst}
use Rattle.pe_view.specs.declared.refusal.Refusal.TheVariants as refusals
use Rattle.pe_layout.specs.Image.{LaidOut}
use Rattle.pe_records_c.specs.Rows.{TellsTable}
use Rattle.pe_records_c.proofs.Telling.{table_accepted, table_refused}
use Rattle.c_tables.specs.VersionRows.{version_strings, version_text}
use Rattle.petool_c.proofs.version.petool_version_strings.Goals as goal

pub returns-in-Ok : goal.returns-in-Ok
returns-in-Ok c =
    let laid = c.in-Ok.ensures in
    let told = c.tell_version_strings in
    table_accepted _ _ version_text (λ text. text) _ _ _ _ _ _ _ laid.0
    (subst (λ (i : LaidOut). TellsTable version_text (λ text. text) (version_strings i) c.args.rows.now told.new.rows told.new.count told.result) laid.1.shows told.ensures)

pub returns-in-Err : goal.returns-in-Err
returns-in-Err c =
    table_refused _ _ _ _ _ _ _ _ _ _ (refusals.Fault c.in-Err.first) c.in-Err.ensures (λ e. absurd cc e) (c.refuse.ensures.status, c.refuse.ensures.told)
