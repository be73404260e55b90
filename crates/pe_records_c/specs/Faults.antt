-- Faults as C has them.
use Rattle.std.specs.Prelude.{◌≡◌, ◌≢◌, ◌⊎◌, ℕ, ◌%◌, ◌^◌, ◌==◌, if◌then◌else◌, List, Option, None, Some, option_map}
use Rattle.pe_view.specs.Faults.{Test, first_standing}
use Rattle.pe_view.specs.declared.fault.Fault.{Fault}
use Rattle.pe_view.specs.declared.fault.Place.{Place}
use Rattle.pe_view.specs.declared.fault.Place.TheVariants.{File, Rva, Address, Item}
use Rattle.pe_view.specs.declared.refusal.Refusal.{Refusal}
use Rattle.pe_view.specs.declared.refusal.Refusal.TheVariants as refusals
use Rattle.pe_records_c.specs.declared.fault.FaultRecord.{FaultRecord}

-- what a place counts: bytes of the file, of the image, of the address space, or items of a list
abbrev pub place_kind : Place → ℕ
place_kind (File offset) = 0
place_kind (Rva rva) = 1
place_kind (Address address) = 2
place_kind (Item index) = 3

abbrev pub place_at : Place → ℕ
place_at (File offset) = offset
place_at (Rva rva) = rva
place_at (Address address) = address
place_at (Item index) = index

-- a fault as the caller's record holds it
abbrev pub fault_record : Fault → FaultRecord
fault_record f = record { number = f.number; place = place_kind f.place; image = f.image; at = place_at f.place }

-- a place of this kind
abbrev pub place_of : ℕ → ℕ → Place
place_of kind at = if kind == 0 then File at else (if kind == 1 then Rva (at % 2 ^ 32) else (if kind == 2 then Address at else Item (at % 2 ^ 32)))

-- the fault of a record
abbrev pub fault_of : FaultRecord → Fault
fault_of r = record { number = r.number; image = r.image % 2 ^ 16; place = place_of (r.place % 4) r.at }

-- how a refusal is reported: status 1 and the fault, or status 2 and the record unchanged
abbrev pub IsTold : Refusal → FaultRecord → FaultRecord → ℕ → Type 0
IsTold (refusals.Fault fault) before after status = (status ≡ 1) × (after ≡ fault_record fault)
IsTold refusals.Memory before after status = (status ≡ 2) × (after ≡ before)

-- how a call that allocates nothing reports the first fault: status 1 and the fault if there is one, otherwise another status and
-- the record unchanged
abbrev pub IsRefusedBy : Option Fault → FaultRecord → FaultRecord → ℕ → Type 0
IsRefusedBy None before after status = (status ≢ 1) × (after ≡ before)
IsRefusedBy (Some fault) before after status = (status ≡ 1) × (after ≡ fault_record fault)

-- how a call that allocates reports the tests of a file: status 1 with the first fault; status 2, out of memory, only if `wants`
-- holds; another status only if there is no fault. All but 1 leave the record unchanged
pub record IsAnswered (wants : Type 0) (tests : List Test) (before after : FaultRecord) (status : ℕ) : Type 0 where
  pub refused : status ≡ 1 → option_map fault_record (first_standing tests) ≡ Some after
  pub memory : status ≡ 2 → wants
  pub accepted : status ≢ 1 → status ≢ 2 → first_standing tests ≡ None
  pub kept : status ≢ 1 → after ≡ before

-- no refusal: the call succeeded, as far as there was room
abbrev pub IsAccepted : ℕ → Type 0
IsAccepted status = (status ≢ 1) × (status ≢ 2)

-- a refusal: a fault, or out of memory
abbrev pub IsRefused : ℕ → Type 0
IsRefused status = (status ≡ 1) ⊎ (status ≡ 2)
