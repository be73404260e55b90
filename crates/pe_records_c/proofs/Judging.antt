-- What a call on a set returns.
use Rattle.std.proofs.Common.{◌≡◌, ◌≢◌, ℕ, None, Option, refl}
use Rattle.pe_set.specs.SetErrors.{ErrorIs}
use Rattle.pe_set.specs.declared.error.MapError.{MapError}
use Rattle.pe_set.specs.declared.error.MapError.TheVariants as errors
use Rattle.pe_records_c.specs.Faults.{IsAccepted}
use Rattle.pe_records_c.specs.SetRows.{IsSetTold, IsJudged}
use Rattle.pe_records_c.specs.declared.fault.FaultRecord.{FaultRecord}

-- an error, which is reported
pub error_told : (first : Option MapError) (error : MapError) (before after : FaultRecord) (cycle cycle_after status : ℕ) → ErrorIs first error → IsSetTold error before after cycle cycle_after status
    → IsJudged first before after cycle cycle_after status
error_told first (errors.Fault fault) before after cycle cycle_after status is told = record {
  refused = λ _. record { error = errors.Fault fault; is_first = is; told = told };
  accepted = λ accepted. absurd (accepted.0 told.0);
  fault_kept = λ other. absurd (other told.0);
  cycle_kept = λ other. absurd (other told.0);
}
error_told first (errors.Cycle fault length) before after cycle cycle_after status is told = record {
  refused = λ _. record { error = errors.Cycle fault length; is_first = is; told = told };
  accepted = λ accepted. absurd (accepted.0 told.0);
  fault_kept = λ other. absurd (other told.0);
  cycle_kept = λ other. absurd (other told.0);
}
error_told first errors.Memory before after cycle cycle_after status is told = record {
  refused = λ e. absurd cc (told.0, e);
  accepted = λ accepted. absurd (accepted.1 told.0);
  fault_kept = λ _. told.1;
  cycle_kept = λ _. told.2;
}

-- the status of an error is not one of acceptance
pub told_not_accepted : {X : Type 0} (error : MapError) (before after : FaultRecord) (cycle cycle_after status : ℕ) → IsSetTold error before after cycle cycle_after status → IsAccepted status → X
told_not_accepted (errors.Fault fault) before after cycle cycle_after status told accepted = absurd (accepted.0 told.0)
told_not_accepted (errors.Cycle fault length) before after cycle cycle_after status told accepted = absurd (accepted.0 told.0)
told_not_accepted errors.Memory before after cycle cycle_after status told accepted = absurd (accepted.1 told.0)

-- no error
pub none_judged : (first : Option MapError) (before : FaultRecord) (cycle status : ℕ) → first ≡ None → status ≢ 1 → IsJudged first before before cycle cycle status
none_judged first before cycle status none other = record {
  refused = λ e. absurd (other e);
  accepted = λ _. none;
  fault_kept = λ _. refl;
  cycle_kept = λ _. refl;
}
