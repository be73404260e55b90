-- How a call that allocates nothing reports a record of a file, or why the file was refused.
use Rattle.std.proofs.Common.{◌≡◌, ℕ, List, Option, None, Some, refl, ap, subst}
use Rattle.std.specs.Prelude.{option_map}
use Rattle.pe_view.specs.Faults.{Test, first_standing}
use Rattle.pe_view.specs.declared.fault.Fault.{Fault}
use Rattle.pe_records_c.specs.Faults.{fault_record}
use Rattle.pe_records_c.specs.declared.fault.FaultRecord.{FaultRecord}
use Rattle.pe_records_c.proofs.Telling.{fault_told, none_refused}
use Rattle.c_tables.specs.Told.{ReadsRecord, TellsRecord}

shown : {R W : Type 0} (view : R → W) (found : Option R) (before after : R) (status : ℕ) → TellsRecord (λ r. r) found before after status → TellsRecord view (option_map view found) before after status
shown view None before after status told = told
shown view (Some r) before after status told = (told.0, ap view told.1)

-- a record that is told, by what it shows
pub record_shown : {R W : Type 0} (view : R → W) (found : Option R) (wanted : Option W) (before after : R) (status : ℕ) → option_map view found ≡ wanted
    → TellsRecord (λ r. r) found before after status → TellsRecord view wanted before after status
record_shown view found wanted before after status is told = subst (λ w. TellsRecord view w before after status) is (shown view found before after status told)

-- a record of a file that has no fault
pub record_read : {R W : Type 0} (tests : List Test) (view : R → W) (found : Option W) (before after : R) (fault : FaultRecord) (status : ℕ) → first_standing tests ≡ None
    → TellsRecord view found before after status → ReadsRecord tests view found before after fault fault status
record_read tests view None before after fault status none told = record {
  refused = none_refused (first_standing tests) fault status none (λ one. absurd cc (told.0, one));
  record_is = λ _. told;
  kept = λ one. absurd cc (told.0, one);
}
record_read tests view (Some w) before after fault status none told = record {
  refused = none_refused (first_standing tests) fault status none (λ one. absurd cc (told.0, one));
  record_is = λ _. told;
  kept = λ one. absurd cc (told.0, one);
}

-- that of a file that is refused
pub record_refused : {R W : Type 0} (tests : List Test) (view : R → W) (found : Option W) (before : R) (first : Fault) (fault fault_after : FaultRecord) (status : ℕ) → first_standing tests ≡ Some first
    → status ≡ 1 → fault_after ≡ fault_record first → ReadsRecord tests view found before before fault fault_after status
record_refused tests view found before first fault fault_after status is one told = record {
  refused = fault_told (first_standing tests) first fault fault_after status is one told;
  record_is = λ other. absurd (other one);
  kept = λ _. refl;
}
