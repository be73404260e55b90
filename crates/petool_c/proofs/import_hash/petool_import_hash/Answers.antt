-- What is told of the imports holds for the file.
use Rattle.std.proofs.Common.{◌≡◌, ◌≢◌, ℕ, List, Option, None, Some, Err, ap, subst, refl, ◌∙◌}
use Rattle.std.specs.Prelude.{map, option_map}
use Rattle.pe_tables.specs.Imports.{Import}
use Rattle.pe_tables.specs.ImportView.{import_view}
use Rattle.pe_imphash.specs.ImportText.{import_hash_of}
use Rattle.pe_records_c.proofs.Telling.{accepted_or_refused, none_told, refusal_told, told_refuses}
use Rattle.c_tables.specs.Told.{TellsRecord}
use Rattle.c_tables.specs.DigestRecords.{digest_record}
use Rattle.c_tables.specs.declared.digest.DigestRecord.{DigestRecord}
use Rattle.petool_c.proofs.import_hash.petool_import_hash.Goals as goal

-- the status of a record is not that of a refusal
no_refusal : (found : Option DigestRecord) (before after : DigestRecord) (status : ℕ) → TellsRecord (λ r. r) found before after status → (status ≢ 1) × (status ≢ 2)
no_refusal None before after status told = (λ one. absurd cc (told.0, one), λ two. absurd cc (told.0, two))
no_refusal (Some r) before after status told = (λ one. absurd cc (told.0, one), λ two. absurd cc (told.0, two))

pub returns-in-Ok : goal.returns-in-Ok
returns-in-Ok c =
    let read = ap (map import_view) c.as_slice.ensures.value ∙ c.in-Ok.ensures.exact.1 in
    let told = subst (λ (imports : List Import). TellsRecord (λ r. r) (option_map digest_record (import_hash_of imports)) c.args.hash.now c.tell_import_hash.new.hash c.tell_import_hash.result) read c.tell_import_hash.ensures in
    let accepted = no_refusal _ _ _ _ told in
    record {
      faults = none_told _ _ _ _ c.in-Ok.ensures.exact.0 accepted.0 accepted.1;
      told = λ _. told;
      kept = λ refused. accepted_or_refused _ accepted refused;
    }

pub returns-in-Err : goal.returns-in-Err
returns-in-Err c = record {
  faults = refusal_told _ _ c.in-Err.refusal _ _ _ c.in-Err.ensures.exact (λ e. c.in-Err.ensures.memory (ap Err e)) c.refuse_for.ensures;
  told = λ accepted. told_refuses c.in-Err.refusal _ _ _ c.refuse_for.ensures accepted;
  kept = λ _. refl;
}
