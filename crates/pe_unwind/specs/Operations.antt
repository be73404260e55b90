-- The unwind codes of an AMD64 image (x64 exception handling, struct UNWIND_CODE): slots of two bytes, of which an operation takes one,
-- two or three.
use Rattle.std.specs.Prelude.{ℕ, zero, suc, ◌+◌, ◌-◌, ◌*◌, ◌/◌, ◌%◌, ◌==◌, ◌&&◌, ◌||◌, Bool, not, nat_lt, List, [], ◌∷◌, Option, None, Some, Result, Ok, Err, if◌then◌else◌}
use Rattle.pe_view.specs.declared.fault.Fault.{Fault}
use Rattle.pe_view.specs.declared.fault.Place.TheVariants.{Rva}
use Rattle.pe_view.specs.Faults.{Test, test, first_standing}
use Rattle.pe_layout.specs.Image.{LaidOut, is_inside, number_at}
use Rattle.pe_unwind.specs.Information.{has_known_version}
use Rattle.pe_unwind.specs.declared.information.UnwindInformation.{UnwindInformation}
use Rattle.pe_unwind.specs.declared.operation.Operation.{Operation}

-- what the slot at an RVA has in the two halves of its second byte: the operation, and its information
abbrev pub code_at : LaidOut → ℕ → ℕ
code_at i at = i.byte (at + 1) % 16

abbrev pub info_at : LaidOut → ℕ → ℕ
info_at i at = i.byte (at + 1) / 16

-- EPILOG is of version 2; there is no operation 7, and none over PUSH_MACHFRAME; ALLOC_LARGE has two forms
abbrev pub is_known : ℕ → ℕ → ℕ → Bool
is_known version code info =
    not ((code == 6) && (version == 1)) && (not (code == 7) && (not (nat_lt 10 code) && not ((code == 1) && nat_lt 1 info)))

-- a number of four bytes follows its slot: ALLOC_LARGE of information 1, SAVE_NONVOL_FAR, SAVE_XMM128_FAR
abbrev pub is_far : ℕ → ℕ → Bool
is_far code info = ((code == 1) && (info == 1)) || ((code == 5) || (code == 9))

-- two bytes do: ALLOC_LARGE of information 0, SAVE_NONVOL, EPILOG, SAVE_XMM128
abbrev pub is_near : ℕ → ℕ → Bool
is_near code info = ((code == 1) && not (info == 1)) || ((code == 4) || ((code == 6) || (code == 8)))

abbrev pub slot_count : ℕ → ℕ → ℕ
slot_count code info = if is_far code info then 3 else (if is_near code info then 2 else 1)

-- the size or the offset of an operation in bytes; 0 if it has none
abbrev pub operand_at : LaidOut → ℕ → ℕ → ℕ → ℕ
operand_at i at code info =
    if is_far code info then number_at 4 i (at + 2)
    else (if (code == 1) || (code == 4) then 8 * number_at 2 i (at + 2)
    else (if code == 8 then 16 * number_at 2 i (at + 2)
    else (if code == 6 then i.byte (at + 2) + 256 * (i.byte (at + 3) / 16)
    else (if code == 2 then 8 * info + 8 else 0))))

-- the operation whose first slot is at an RVA
abbrev pub operation_at : LaidOut → ℕ → Operation
operation_at i at = record {
  at = at;
  offset = i.byte at;
  code = code_at i at;
  info = info_at i at;
  operand = operand_at i at (code_at i at) (info_at i at);
}

abbrev pub slots_at : LaidOut → ℕ → ℕ
slots_at i at = slot_count (code_at i at) (info_at i at)

-- it has no slot; the operation is not known; it takes more slots than are left, or than are in the image
abbrev pub operation_tests : LaidOut → ℕ → ℕ → ℕ → List Test
operation_tests i version left at =
    test 118 i.number (Rva at) (not (is_inside i at 2))
    ∷ test 119 i.number (Rva at) (not (is_known version (code_at i at) (info_at i at)))
    ∷ test 118 i.number (Rva at) (nat_lt left (slots_at i at) || not (is_inside i at (2 * slots_at i at)))
    ∷ []

-- a value, or the fault that stands in its place
abbrev pub unless : {X : Type 0} → Option Fault → X → Result X Fault
unless None x = Ok x
unless (Some fault) x = Err fault

abbrev pub read_operation : LaidOut → ℕ → ℕ → ℕ → Result Operation Fault
read_operation i version left at = unless (first_standing (operation_tests i version left at)) (operation_at i at)

-- an operation and those after it, or the fault that ends them
abbrev pub and_then : Result Operation Fault → List (Result Operation Fault) → List (Result Operation Fault)
and_then (Ok operation) rest = Ok operation ∷ rest
and_then (Err fault) rest = Err fault ∷ []

-- those in so many slots from an RVA on, of which the first `taken` are of an operation before them
abbrev pub operations_from : LaidOut → ℕ → ℕ → ℕ → ℕ → List (Result Operation Fault)
operations_from i version zero taken at = []
operations_from i version (suc left) zero at = and_then (read_operation i version (suc left) at) (operations_from i version left (slots_at i at - 1) (at + 2))
operations_from i version (suc left) (suc taken) at = operations_from i version left taken (at + 2)

-- how many slots are read: those of unwind information that is in the image, and has a version that is known
abbrev pub slots_read : LaidOut → UnwindInformation → ℕ
slots_read i u = if has_known_version u && is_inside i u.rva 4 then u.code_count else 0

abbrev pub operations_of : LaidOut → UnwindInformation → List (Result Operation Fault)
operations_of i u = operations_from i u.version (slots_read i u) 0 (u.rva + 4)

-- the RVAs of so many slots
abbrev pub slots_from : ℕ → ℕ → List ℕ
slots_from at zero = []
slots_from at (suc left) = at ∷ slots_from (at + 2) left

-- those of an operation
abbrev pub slots_of : Operation → List ℕ
slots_of o = slots_from o.at (slot_count o.code o.info)
