-- Sets of images as C has them, and how they are checked.
use Rattle.std.specs.Prelude.{◌≡◌, ◌≢◌, ◌+◌, ℕ, Bool, true, false, List, [], ◌∷◌, take, Option, None, Some}
use Rattle.pe_view.specs.Faults.{first_standing}
use Rattle.pe_view.specs.declared.fault.Fault.{Fault}
use Rattle.pe_layout.specs.Image.{image_of_file}
use Rattle.pe_layout.specs.SectionFaults.{layout_tests}
use Rattle.pe_set.specs.Set.{Entry}
use Rattle.pe_set.specs.declared.binding.Binding.{Binding}
use Rattle.pe_set.specs.declared.entry.Policy.{Policy}
use Rattle.pe_set.specs.declared.entry.Policy.TheVariants.{Strict, Known}
use Rattle.pe_set.specs.declared.error.MapError.{MapError}
use Rattle.pe_set.specs.declared.error.MapError.TheVariants as errors
use Rattle.pe_records_c.specs.Faults.{fault_record, IsAccepted}
use Rattle.pe_records_c.specs.declared.fault.FaultRecord.{FaultRecord}
use Rattle.pe_records_c.specs.declared.set.BindingRow.{BindingRow}
use Rattle.pe_records_c.specs.declared.set.EntryRecord.{EntryRecord}

abbrev pub entry_text : EntryRecord → Entry
entry_text e = record { name = e.name.now; file = e.file.now; base = e.base }

-- the entries of a set that are read: the 257th has fault 41
abbrev pub counted : List Entry → List Entry
counted es = take 257 es

-- the size of a file's image, or 0 if its headers or sections have a fault
abbrev pub size_unless : List ℕ → Option Fault → ℕ
size_unless file None = (image_of_file 0 file).size
size_unless file (Some fault) = 0

abbrev pub claimed_size : List ℕ → ℕ
claimed_size file = size_unless file (first_standing (layout_tests 0 file))

-- the bytes that the images of a set take
abbrev pub claimed_sizes : List Entry → ℕ
claimed_sizes [] = 0
claimed_sizes (e ∷ es) = claimed_size e.file + claimed_sizes es

abbrev pub binding_row : Binding → BindingRow
binding_row b = record { image = b.image; slot = b.slot; exporter = b.exporter; rva = b.rva }

-- how modules outside the set are treated
abbrev pub policy_of : Bool → Policy
policy_of true = Known
policy_of false = Strict

-- how an error is reported: status 1 and the fault, for a cycle also its length, or status 2 and both unchanged
abbrev pub IsSetTold : MapError → FaultRecord → FaultRecord → ℕ → ℕ → ℕ → Type 0
IsSetTold (errors.Fault fault) before after cycle cycle_after status = (status ≡ 1) × (after ≡ fault_record fault) × (cycle_after ≡ cycle)
IsSetTold (errors.Cycle fault length) before after cycle cycle_after status = (status ≡ 1) × (after ≡ fault_record fault) × (cycle_after ≡ length)
IsSetTold errors.Memory before after cycle cycle_after status = (status ≡ 2) × (after ≡ before) × (cycle_after ≡ cycle)

-- the first error of a set, which is reported
pub record IsFirst (first : Option MapError) (before after : FaultRecord) (cycle cycle_after status : ℕ) : Type 0 where
  pub error : MapError
  pub is_first : first ≡ Some error
  pub told : IsSetTold error before after cycle cycle_after status

-- what a call on a set returns: status 1 with its first error, and a status other than 1 and 2 only if it has none
pub record IsJudged (first : Option MapError) (before after : FaultRecord) (cycle cycle_after status : ℕ) : Type 0 where
  pub refused : status ≡ 1 → IsFirst first before after cycle cycle_after status
  pub accepted : IsAccepted status → first ≡ None
  pub fault_kept : status ≢ 1 → after ≡ before
  pub cycle_kept : status ≢ 1 → cycle_after ≡ cycle
