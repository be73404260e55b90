-- Records of an image as calls report them that allocate nothing.
use Rattle.std.specs.Prelude.{◌≡◌, ◌≢◌, ℕ, List, Option, None, Some}
use Rattle.pe_view.specs.Faults.{Test, first_standing}
use Rattle.pe_records_c.specs.Faults.{IsRefusedBy}
use Rattle.pe_records_c.specs.declared.fault.FaultRecord.{FaultRecord}

-- a record: status 0 and the record, or 3 if there is none, and the caller's is unchanged
abbrev pub TellsRecord : {R W : Type 0} → (R → W) → Option W → R → R → ℕ → Type 0
TellsRecord view None before after status = (status ≡ 3) × (after ≡ before)
TellsRecord view (Some found) before after status = (status ≡ 0) × (view after ≡ found)

-- a call that reads a record of a file: the first fault, or the record
pub record ReadsRecord {R W : Type 0} (tests : List Test) (view : R → W) (found : Option W) (before after : R) (fault fault_after : FaultRecord) (status : ℕ) : Type 0 where
  pub refused : IsRefusedBy (first_standing tests) fault fault_after status
  pub record_is : status ≢ 1 → TellsRecord view found before after status
  pub kept : status ≡ 1 → after ≡ before
