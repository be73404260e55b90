-- How a call reports why a file was refused, or that it was not.
use Rattle.std.proofs.Common.{◌≡◌, ◌≢◌, ℕ, Bool, true, false, List, length, Option, None, Some, Result, Err, refl, sym, ap, ◌∙◌, inl, inr}
use Rattle.std.proofs.lemmas.Option.{same_Some}
use Rattle.std.specs.Prelude.{map, option_map, nat_le, if◌then◌else◌}
use Rattle.pe_view.specs.Faults.{Test, first_standing, Refuses}
use Rattle.pe_view.specs.declared.fault.Fault.{Fault}
use Rattle.pe_view.specs.declared.refusal.Refusal.{Refusal}
use Rattle.pe_view.specs.declared.refusal.Refusal.TheVariants as refusals
use Rattle.pe_tables.specs.Imports.{Import}
use Rattle.pe_tables.specs.Key.{Target}
use Rattle.pe_records_c.specs.ExportRows.{TellsTarget}
use Rattle.pe_records_c.specs.ImportRows.{TellsImport}
use Rattle.pe_records_c.specs.declared.export.TargetRecord.{TargetRecord}
use Rattle.pe_records_c.specs.declared.import.ImportRow.{ImportRow}
use Rattle.pe_records_c.specs.Faults.{fault_record, IsTold, IsAnswered, IsAccepted, IsRefused, IsRefusedBy}
use Rattle.pe_records_c.specs.Rows.{Fills, ReadsTable, TellsTable}
use Rattle.pe_records_c.specs.declared.fault.FaultRecord.{FaultRecord}
use Rattle.pe_records_c.proofs.Rows.{table_told}

-- a refusal, which is reported
pub refusal_told : (wants : Type 0) (tests : List Test) (refusal : Refusal) (before after : FaultRecord) (status : ℕ) → Refuses tests refusal → (refusal ≡ refusals.Memory → wants)
    → IsTold refusal before after status → IsAnswered wants tests before after status
refusal_told wants tests (refusals.Fault fault) before after status refused memory told = record {
  refused = λ _. ap (option_map fault_record) refused ∙ ap Some (sym told.1);
  memory = λ e. absurd cc (told.0, e);
  accepted = λ other _. absurd (other told.0);
  kept = λ other. absurd (other told.0);
}
refusal_told wants tests refusals.Memory before after status refused memory told = record {
  refused = λ e. absurd cc (told.0, e);
  memory = λ _. memory refl;
  accepted = λ _ other. absurd (other told.0);
  kept = λ _. told.1;
}

-- no refusal: another status, and the record unchanged
pub none_told : (wants : Type 0) (tests : List Test) (before : FaultRecord) (status : ℕ) → first_standing tests ≡ None → status ≢ 1 → status ≢ 2 → IsAnswered wants tests before before status
none_told wants tests before status none not_fault not_memory = record {
  refused = λ e. absurd (not_fault e);
  memory = λ e. absurd (not_memory e);
  accepted = λ _ _. none;
  kept = λ _. refl;
}

-- the status of a table is not that of a refusal
pub no_refusal : (b : Bool) (status : ℕ) → status ≡ (if b then 0 else 4) → (status ≢ 1) × (status ≢ 2)
no_refusal true status e = (λ one. absurd cc (e, one), λ two. absurd cc (e, two))
no_refusal false status e = (λ one. absurd cc (e, one), λ two. absurd cc (e, two))

-- the status of a refusal is not one of acceptance
pub told_refuses : {X : Type 0} (refusal : Refusal) (before after : FaultRecord) (status : ℕ) → IsTold refusal before after status → IsAccepted status → X
told_refuses (refusals.Fault fault) before after status told accepted = absurd (accepted.0 told.0)
told_refuses refusals.Memory before after status told accepted = absurd (accepted.1 told.0)

pub accepted_or_refused : {X : Type 0} (status : ℕ) → IsAccepted status → IsRefused status → X
accepted_or_refused status accepted refused = elim refused [ inl one ↦ absurd (accepted.0 one) | inr two ↦ absurd (accepted.1 two) ]

-- a table that is reported
pub table_read : {T R S W : Type 0} (wants : Type 0) (tests : List Test) (view : R → W) (item : T → S) (row : S → W) (table : List T) (items : List S) (old new : List R) (before count : ℕ) (fault : FaultRecord) (status : ℕ)
    → first_standing tests ≡ None → map item table ≡ items → Fills (λ x r. view r ≡ row (item x)) table old new → count ≡ length table → status ≡ (if nat_le (length table) (length old) then 0 else 4)
    → ReadsTable wants tests view row items old new before count fault fault status
table_read wants tests view item row table items old new before count fault status none shown fills counted answered =
    let accepted = no_refusal (nat_le (length table) (length old)) status answered in
    record {
      faults = none_told wants tests fault status none accepted.0 accepted.1;
      table_is = λ _. table_told view item row table items old new count status shown fills counted answered;
      rows_kept = λ refused. accepted_or_refused status accepted refused;
      count_kept = λ refused. accepted_or_refused status accepted refused;
    }

-- a table that is told
pub table_accepted : {T R W : Type 0} (wants : Type 0) (tests : List Test) (view : R → W) (row : T → W) (items : List T) (old new : List R) (before count : ℕ) (fault : FaultRecord) (status : ℕ)
    → first_standing tests ≡ None → TellsTable view row items old new count status → ReadsTable wants tests view row items old new before count fault fault status
table_accepted wants tests view row items old new before count fault status none told =
    let accepted = no_refusal (nat_le (length items) (length old)) status told.status_is in
    record {
      faults = none_told wants tests fault status none accepted.0 accepted.1;
      table_is = λ _. told;
      rows_kept = λ refused. accepted_or_refused status accepted refused;
      count_kept = λ refused. accepted_or_refused status accepted refused;
    }

-- a table that is refused
pub table_refused : {T R W : Type 0} (wants : Type 0) (tests : List Test) (view : R → W) (row : T → W) (items : List T) (rows : List R) (count : ℕ) (before after : FaultRecord) (status : ℕ) (refusal : Refusal)
    → Refuses tests refusal → (refusal ≡ refusals.Memory → wants) → IsTold refusal before after status
    → ReadsTable wants tests view row items rows rows count count before after status
table_refused wants tests view row items rows count before after status refusal refused memory told = record {
  faults = refusal_told wants tests refusal before after status refused memory told;
  table_is = λ accepted. told_refuses refusal before after status told accepted;
  rows_kept = λ _. refl;
  count_kept = λ _. refl;
}

-- the status of a target is not that of a refusal
pub target_answered : (wants : Type 0) (tests : List Test) (fault : FaultRecord) (target : Option Target) (before after : TargetRecord) (status : ℕ) → first_standing tests ≡ None → TellsTarget target before after status
    → IsAnswered wants tests fault fault status
target_answered wants tests fault None before after status none told = none_told wants tests fault status none (λ one. absurd cc (told.0, one)) (λ two. absurd cc (told.0, two))
target_answered wants tests fault (Some target) before after status none told = none_told wants tests fault status none (λ one. absurd cc (told.0, one)) (λ two. absurd cc (told.0, two))

pub target_kept : (target : Option Target) (before after : TargetRecord) (status : ℕ) → TellsTarget target before after status → IsRefused status → after ≡ before
target_kept None before after status told refused = told.1
target_kept (Some target) before after status told refused = elim refused [ inl one ↦ absurd cc (told.0, one) | inr two ↦ absurd cc (told.0, two) ]

-- nor is the status of an import
pub import_answered : (wants : Type 0) (tests : List Test) (fault : FaultRecord) (found : Option Import) (before after : ImportRow) (status : ℕ) → first_standing tests ≡ None → TellsImport found before after status
    → IsAnswered wants tests fault fault status
import_answered wants tests fault None before after status none told = none_told wants tests fault status none (λ one. absurd cc (told.0, one)) (λ two. absurd cc (told.0, two))
import_answered wants tests fault (Some found) before after status none told = none_told wants tests fault status none (λ one. absurd cc (told.0, one)) (λ two. absurd cc (told.0, two))

pub import_kept : (found : Option Import) (before after : ImportRow) (status : ℕ) → TellsImport found before after status → IsRefused status → after ≡ before
import_kept None before after status told refused = told.1
import_kept (Some found) before after status told refused = elim refused [ inl one ↦ absurd cc (told.0, one) | inr two ↦ absurd cc (told.0, two) ]

-- a call that succeeded
pub done_told : (wants : Type 0) (tests : List Test) (before : FaultRecord) → first_standing tests ≡ None → IsAnswered wants tests before before 0
done_told wants tests before none = none_told wants tests before 0 none (λ one. absurd cc) (λ two. absurd cc)

-- memory runs out only if there is no early fault, given that each early fault is returned
pub early_none : {X : Type 0} (first : Option Fault) (refusal : Refusal) → refusal ≡ refusals.Memory → ((fault : Fault) → first ≡ Some fault → ◌≡◌ {A = Result X Refusal} (Err refusal) (Err (refusals.Fault fault))) → first ≡ None
early_none None refusal memory early = refl
early_none (Some fault) refusal memory early = absurd cc (memory, early fault refl)

-- for a call that allocates nothing: the first fault, which is reported
pub fault_told : (first : Option Fault) (fault : Fault) (before after : FaultRecord) (status : ℕ) → first ≡ Some fault → status ≡ 1 → after ≡ fault_record fault → IsRefusedBy first before after status
fault_told None fault before after status is one told = absurd cc is
fault_told (Some other) fault before after status is one told = (one, told ∙ ap fault_record (sym (same_Some other fault is)))

-- or none, and another status
pub none_refused : (first : Option Fault) (before : FaultRecord) (status : ℕ) → first ≡ None → status ≢ 1 → IsRefusedBy first before before status
none_refused None before status none other = (other, refl)
none_refused (Some fault) before status none other = absurd cc none

-- the status of a table is not that of a fault
pub table_no_fault : {T R W : Type 0} (view : R → W) (row : T → W) (table : List T) (before after : List R) (count status : ℕ) → TellsTable view row table before after count status → status ≢ 1
table_no_fault view row table before after count status told = (no_refusal _ status told.status_is).0
