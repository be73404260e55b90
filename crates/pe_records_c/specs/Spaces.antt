-- What the calls of a space return.
use Rattle.std.specs.Prelude.{◌≡◌, ℕ, false, List, [], Option, None, Some, Result, Ok, Err}
use Rattle.pe_view.specs.declared.fault.Fault.{Fault}
use Rattle.pe_set.specs.Set.{Entry}
use Rattle.pe_set.specs.declared.binding.Binding.{Binding}
use Rattle.pe_set.specs.declared.entry.Policy.{Policy}
use Rattle.pe_space.specs.Content.{Content, window_at, base_at, size_at}
use Rattle.pe_space.specs.Moves.{move_fault, moved, moved_counts}
use Rattle.pe_space.specs.SpaceOf.{IsSpaceOf}
use Rattle.pe_handle.specs.Shared.{SharedContent}
use Rattle.pe_records_c.specs.Faults.{fault_record}
use Rattle.pe_records_c.specs.declared.fault.FaultRecord.{FaultRecord}
use Rattle.pe_records_c.specs.declared.moved.MovedRecord.{MovedRecord}
use Rattle.pe_records_c.specs.MovedRows.{moved_record}

-- a space of these entries, of which no other handle has been made
abbrev pub IsOwnSpaceOf : Policy → List Entry → SharedContent → Type 0
IsOwnSpaceOf policy es owner = IsSpaceOf policy es owner.content × (owner.is_shared ≡ false)

-- a read of n bytes: status 0 and the bytes, 1 and the fault, or 6 if there is no space; the rest is unchanged
abbrev pub IsWindow : Result (List ℕ) Fault → List ℕ → List ℕ → FaultRecord → FaultRecord → ℕ → Type 0
IsWindow (Ok bytes) old new before after status = (status ≡ 0) × (new ≡ bytes) × (after ≡ before)
IsWindow (Err fault) old new before after status = (status ≡ 1) × (new ≡ old) × (after ≡ fault_record fault)

abbrev pub IsReadOf : Option Content → ℕ → ℕ → List ℕ → List ℕ → FaultRecord → FaultRecord → ℕ → Type 0
IsReadOf None address n old new before after status = (status ≡ 6) × (new ≡ old) × (after ≡ before)
IsReadOf (Some space) address n old new before after status = IsWindow (window_at space address n) old new before after status

-- the same for a move, by its fault
abbrev pub IsMoveBy : Option Fault → Content → ℕ → ℕ → Option Content → MovedRecord → MovedRecord → FaultRecord → FaultRecord → ℕ → Type 0
IsMoveBy None space image base new counts_before counts_after before after status =
    (status ≡ 0) × (new ≡ Some (moved space image base)) × (counts_after ≡ moved_record (moved_counts space image)) × (after ≡ before)
IsMoveBy (Some fault) space image base new counts_before counts_after before after status =
    (status ≡ 1) × (new ≡ Some space) × (counts_after ≡ counts_before) × (after ≡ fault_record fault)

abbrev pub IsMoveOf : Option Content → ℕ → ℕ → Option Content → MovedRecord → MovedRecord → FaultRecord → FaultRecord → ℕ → Type 0
IsMoveOf None image base new counts_before counts_after before after status = (status ≡ 6) × (new ≡ None) × (counts_after ≡ counts_before) × (after ≡ before)
IsMoveOf (Some space) image base new counts_before counts_after before after status =
    IsMoveBy (move_fault space image base) space image base new counts_before counts_after before after status

-- the base and the size of an image of an open space
abbrev pub base_of : Option Content → ℕ → Option ℕ
base_of None image = None
base_of (Some space) image = base_at space image

abbrev pub size_of : Option Content → ℕ → Option ℕ
size_of None image = None
size_of (Some space) image = size_at space image

abbrev pub bindings_of : Option Content → List Binding
bindings_of None = []
bindings_of (Some space) = space.bindings
