-- Unwind information of AMD64 images by the definitions, as examples. Those of `libgnat` and `winpthread` are of GCC's libraries for
-- Windows, with the values that another reader told.
use Rattle.std.proofs.Common.{◌≡◌, ℕ, ◌+◌, ◌-◌, false, List, [], ◌∷◌, Option, Some, None, get_or, length, refl}
use Rattle.std.specs.Prelude.{Result, Ok, Err}
use Rattle.pe_view.specs.declared.fault.Fault.{Fault}
use Rattle.pe_view.specs.declared.fault.Place.TheVariants.{Rva}
use Rattle.pe_view.specs.Faults.{first_standing}
use Rattle.pe_layout.specs.Image.{LaidOut}
use Rattle.pe_records.specs.declared.function.Function.{Function}
use Rattle.pe_unwind.specs.Chains.{chain_from, chain_of}
use Rattle.pe_unwind.specs.Information.{chained_of, handler_of, information_at, information_in, information_tests}
use Rattle.pe_unwind.specs.Operations.{operations_of}
use Rattle.pe_unwind.specs.declared.operation.Operation.{Operation}

-- an image of which these are the last bytes, from 0x1000 on
abbrev pub image : List ℕ → LaidOut
image held = record {
  number = 7;
  size = 0x1000 + length held;
  byte = λ rva. get_or held (rva - 0x1000) 0;
  raw_left = λ _. 0;
  text = λ _. None;
  directory = λ _. None;
  slot_width = 8;
  image_base = 0x10000000;
  is_stripped = false;
}

abbrev found : ℕ → ℕ → Fault
found number rva = record { number = number; image = 7; place = Rva rva }

-- its operations, of unwind information at 0x1000
abbrev operations : List ℕ → List (Result Operation Fault)
operations held = operations_of (image held) (information_in (image held) 0x1000)

abbrev operation : ℕ → ℕ → ℕ → ℕ → ℕ → Result Operation Fault
operation at offset code info operand = Ok (record { at = at; offset = offset; code = code; info = info; operand = operand })

abbrev handler : List ℕ → Option ℕ
handler held = handler_of (image held) (information_in (image held) 0x1000)

abbrev function : ℕ → ℕ → ℕ → Function
function begin end unwind = record { begin = begin; end = end; unwind = unwind }

fields : information_at (image (0x2a ∷ 0x13 ∷ 0x07 ∷ 0x85 ∷ [])) 0x1000
    ≡ Some (record { rva = 0x1000; version = 2; flags = 5; prologue = 0x13; code_count = 7; frame_register = 5; frame_offset = 0x80 })
fields = refl

four_bytes : information_at (image (0x2a ∷ 0x13 ∷ 0x07 ∷ 0x85 ∷ [])) 0x1001 ≡ None
four_bytes = refl

-- ---- libgnat: XMM6, a frame register with its offset, a large allocation and five registers
abbrev sha512 : List ℕ
sha512 =
    0x01 ∷ 0x1c ∷ 0x0a ∷ 0x85 ∷ 0x1c ∷ 0x68 ∷ 0x10 ∷ 0x00 ∷ 0x15 ∷ 0x03 ∷ 0x0d ∷ 0x01
    ∷ 0x22 ∷ 0x00 ∷ 0x06 ∷ 0x30 ∷ 0x05 ∷ 0x60 ∷ 0x04 ∷ 0x70 ∷ 0x03 ∷ 0xc0 ∷ 0x01 ∷ 0x50 ∷ []

sha512_information : information_at (image sha512) 0x1000
    ≡ Some (record { rva = 0x1000; version = 1; flags = 0; prologue = 28; code_count = 10; frame_register = 5; frame_offset = 0x80 })
sha512_information = refl

sha512_operations : operations sha512
    ≡ operation 0x1004 0x1c 8 6 0x100 ∷ operation 0x1008 0x15 3 0 0 ∷ operation 0x100a 0x0d 1 0 272 ∷ operation 0x100e 0x06 0 3 0
    ∷ operation 0x1010 0x05 0 6 0 ∷ operation 0x1012 0x04 0 7 0 ∷ operation 0x1014 0x03 0 12 0 ∷ operation 0x1016 0x01 0 5 0 ∷ []
sha512_operations = refl

no_handler : handler sha512 ≡ None
no_handler = refl

-- ---- libgnat: a register that is saved, and a handler after three slots and one that pads them
abbrev cold : List ℕ
cold = 0x19 ∷ 0x00 ∷ 0x03 ∷ 0x00 ∷ 0x00 ∷ 0x34 ∷ 0x08 ∷ 0x00 ∷ 0x00 ∷ 0x82 ∷ 0x00 ∷ 0x00 ∷ 0x90 ∷ 0x05 ∷ 0x25 ∷ 0x00 ∷ []

cold_operations : operations cold ≡ operation 0x1004 0 4 3 0x40 ∷ operation 0x1008 0 2 8 72 ∷ []
cold_operations = refl

cold_handler : handler cold ≡ Some 0x250590
cold_handler = refl

-- ---- winpthread: a handler for exceptions alone
abbrev wrapper : List ℕ
wrapper =
    0x09 ∷ 0x0a ∷ 0x05 ∷ 0x05 ∷ 0x0a ∷ 0x32 ∷ 0x06 ∷ 0x30 ∷ 0x05 ∷ 0x60 ∷ 0x04 ∷ 0x03 ∷ 0x01 ∷ 0x50 ∷ 0x00 ∷ 0x00
    ∷ 0x90 ∷ 0x8d ∷ 0x00 ∷ 0x00 ∷ []

wrapper_operations : operations wrapper
    ≡ operation 0x1004 0x0a 2 3 32 ∷ operation 0x1006 0x06 0 3 0 ∷ operation 0x1008 0x05 0 6 0 ∷ operation 0x100a 0x04 3 0 0
    ∷ operation 0x100c 0x01 0 5 0 ∷ []
wrapper_operations = refl

wrapper_handler : handler wrapper ≡ Some 0x8d90
wrapper_handler = refl

-- ---- handlers by flags: none where another function's record follows, where the version is another, or past the image
chained_handler : handler (0x29 ∷ 0x00 ∷ 0x00 ∷ 0x00 ∷ 0x01 ∷ 0x02 ∷ 0x03 ∷ 0x04 ∷ []) ≡ None
chained_handler = refl

unwind_handler : handler (0x12 ∷ 0x00 ∷ 0x00 ∷ 0x00 ∷ 0x01 ∷ 0x02 ∷ 0x03 ∷ 0x04 ∷ []) ≡ Some 0x04030201
unwind_handler = refl

unknown_handler : handler (0x1b ∷ 0x00 ∷ 0x00 ∷ 0x00 ∷ 0x01 ∷ 0x02 ∷ 0x03 ∷ 0x04 ∷ []) ≡ None
unknown_handler = refl

cut_handler : handler (0x19 ∷ 0x00 ∷ 0x00 ∷ 0x00 ∷ 0x01 ∷ 0x02 ∷ 0x03 ∷ []) ≡ None
cut_handler = refl

-- ---- operations with numbers of four bytes, and those without numbers
far_operations : operations
    (0x01 ∷ 0x00 ∷ 0x0b ∷ 0x00 ∷ 0x20 ∷ 0x11 ∷ 0x01 ∷ 0x02 ∷ 0x03 ∷ 0x04 ∷ 0x1f ∷ 0xf5 ∷ 0x11 ∷ 0x12 ∷ 0x13 ∷ 0x14
    ∷ 0x1e ∷ 0xe9 ∷ 0x21 ∷ 0x22 ∷ 0x23 ∷ 0x24 ∷ 0x02 ∷ 0x0a ∷ 0x00 ∷ 0x1a ∷ [])
    ≡ operation 0x1004 0x20 1 1 0x04030201 ∷ operation 0x100a 0x1f 5 15 0x14131211 ∷ operation 0x1010 0x1e 9 14 0x24232221
    ∷ operation 0x1016 0x02 10 0 0 ∷ operation 0x1018 0x00 10 1 0 ∷ []
far_operations = refl

-- numbers of two bytes are multiples: of 8 in a large allocation and for a register, of 16 for an XMM register
near_operations : operations
    (0x01 ∷ 0x00 ∷ 0x06 ∷ 0x00 ∷ 0x20 ∷ 0x01 ∷ 0xff ∷ 0xff ∷ 0x1f ∷ 0xf4 ∷ 0xfe ∷ 0xff ∷ 0x1e ∷ 0xe8 ∷ 0xfd ∷ 0xff ∷ [])
    ≡ operation 0x1004 0x20 1 0 524280 ∷ operation 0x1008 0x1f 4 15 524272 ∷ operation 0x100c 0x1e 8 14 1048528 ∷ []
near_operations = refl

-- ---- epilogs of version 2: one of 7 bytes at the end of the function, one 0x123 bytes before it, and padding
epilogs : operations (0x02 ∷ 0x00 ∷ 0x06 ∷ 0x00 ∷ 0x07 ∷ 0x16 ∷ 0x00 ∷ 0x06 ∷ 0x07 ∷ 0x06 ∷ 0x23 ∷ 0x16 ∷ 0x00 ∷ 0x06 ∷ 0x00 ∷ 0x06 ∷ [])
    ≡ operation 0x1004 7 6 1 0 ∷ operation 0x1008 7 6 0 0x123 ∷ operation 0x100c 0 6 0 0 ∷ []
epilogs = refl

-- ---- findings
abbrev information_findings : List ℕ → Option Fault
information_findings held = first_standing (information_tests (image held) (information_in (image held) 0x1000))

version_2 : information_findings (0x02 ∷ 0x00 ∷ 0x00 ∷ 0x00 ∷ []) ≡ None
version_2 = refl

version_0 : information_findings (0x18 ∷ 0x00 ∷ 0x00 ∷ 0x00 ∷ []) ≡ Some (found 117 0x1000)
version_0 = refl

version_3 : information_findings (0x03 ∷ 0x00 ∷ 0x00 ∷ 0x00 ∷ []) ≡ Some (found 117 0x1000)
version_3 = refl

-- of another version nothing is read
version_3_operations : operations (0x03 ∷ 0x00 ∷ 0x01 ∷ 0x00 ∷ 0x01 ∷ 0x50 ∷ []) ≡ []
version_3_operations = refl

-- of one that is not in the image neither
cut_information : operations (0x01 ∷ 0x00 ∷ 0x01 ∷ []) ≡ []
cut_information = refl

-- an epilog of version 1
epilog_1 : operations (0x01 ∷ 0x00 ∷ 0x03 ∷ 0x00 ∷ 0x01 ∷ 0x50 ∷ 0x07 ∷ 0x06 ∷ 0x00 ∷ 0x06 ∷ []) ≡ operation 0x1004 1 0 5 0 ∷ Err (found 119 0x1006) ∷ []
epilog_1 = refl

operation_7 : operations (0x02 ∷ 0x00 ∷ 0x01 ∷ 0x00 ∷ 0x01 ∷ 0x07 ∷ []) ≡ Err (found 119 0x1004) ∷ []
operation_7 = refl

operation_11 : operations (0x02 ∷ 0x00 ∷ 0x01 ∷ 0x00 ∷ 0x01 ∷ 0x0b ∷ []) ≡ Err (found 119 0x1004) ∷ []
operation_11 = refl

-- a third form of a large allocation, which would take more slots than are left
large_2 : operations (0x01 ∷ 0x00 ∷ 0x01 ∷ 0x00 ∷ 0x01 ∷ 0x21 ∷ []) ≡ Err (found 119 0x1004) ∷ []
large_2 = refl

-- two slots are left for an operation of three, and one for one of two
three_of_two : operations (0x01 ∷ 0x00 ∷ 0x02 ∷ 0x00 ∷ 0x01 ∷ 0x11 ∷ 0x00 ∷ 0x00 ∷ 0x00 ∷ 0x00 ∷ []) ≡ Err (found 118 0x1004) ∷ []
three_of_two = refl

two_of_one : operations (0x01 ∷ 0x00 ∷ 0x02 ∷ 0x00 ∷ 0x01 ∷ 0x50 ∷ 0x01 ∷ 0x54 ∷ 0x00 ∷ 0x00 ∷ []) ≡ operation 0x1004 1 0 5 0 ∷ Err (found 118 0x1006) ∷ []
two_of_one = refl

-- the image ends in a slot, and in the second one of an operation
cut_slot : operations (0x01 ∷ 0x00 ∷ 0x02 ∷ 0x00 ∷ 0x01 ∷ 0x50 ∷ 0x07 ∷ []) ≡ operation 0x1004 1 0 5 0 ∷ Err (found 118 0x1006) ∷ []
cut_slot = refl

cut_operand : operations (0x01 ∷ 0x00 ∷ 0x02 ∷ 0x00 ∷ 0x01 ∷ 0x54 ∷ 0x00 ∷ []) ≡ Err (found 118 0x1004) ∷ []
cut_operand = refl

-- ---- chains: unwind information at 0x1000 of one slot and one that pads it, then the record at 0x1008 of a function whose unwind
-- information is at 0x1014
abbrev two : LaidOut
two = image
    (0x21 ∷ 0x00 ∷ 0x01 ∷ 0x00 ∷ 0x00 ∷ 0x30 ∷ 0x00 ∷ 0x00 ∷ 0x01 ∷ 0x02 ∷ 0x03 ∷ 0x04 ∷ 0x05 ∷ 0x06 ∷ 0x07 ∷ 0x08
    ∷ 0x14 ∷ 0x10 ∷ 0x00 ∷ 0x00 ∷ 0x01 ∷ 0x00 ∷ 0x00 ∷ 0x00 ∷ [])

abbrev second : Function
second = function 0x04030201 0x08070605 0x1014

chained : chained_of two (information_in two 0x1000) ≡ Some second
chained = refl

not_chained : chained_of two (information_in two 0x1014) ≡ None
not_chained = refl

one_step : chain_of two (function 0x500 0x600 0x1000) ≡ Ok second ∷ []
one_step = refl

-- an odd RVA is a step of its own
by_record : chain_of two (function 0x500 0x600 0x1009) ≡ Ok second ∷ []
by_record = refl

-- no more may follow than so many
too_long : chain_from two 0 (function 0x500 0x600 0x1000) ≡ Err (found 120 0x1000) ∷ []
too_long = refl

long_enough : chain_from two 1 (function 0x500 0x600 0x1000) ≡ Ok second ∷ []
long_enough = refl

-- the record is not in the image: that after the codes, and that before an odd RVA
cut_record : chain_of (image (0x21 ∷ 0x00 ∷ 0x00 ∷ 0x00 ∷ 0x01 ∷ 0x02 ∷ 0x03 ∷ 0x04 ∷ 0x05 ∷ 0x06 ∷ 0x07 ∷ 0x08 ∷ 0x00 ∷ 0x10 ∷ 0x00 ∷ [])) (function 0x500 0x600 0x1000)
    ≡ Err (found 120 0x1000) ∷ []
cut_record = refl

odd_record : chain_of two (function 0x500 0x600 0x100f) ≡ Err (found 120 0x100e) ∷ []
odd_record = refl

-- nor is the unwind information of its function
lost : chain_of (image (0x21 ∷ 0x00 ∷ 0x00 ∷ 0x00 ∷ 0x01 ∷ 0x02 ∷ 0x03 ∷ 0x04 ∷ 0x05 ∷ 0x06 ∷ 0x07 ∷ 0x08 ∷ 0x0e ∷ 0x10 ∷ 0x00 ∷ 0x00 ∷ [])) (function 0x500 0x600 0x1000)
    ≡ Err (found 120 0x1000) ∷ []
lost = refl

-- of a version that is not known there is no chain
unknown_chain : chain_of (image (0x23 ∷ 0x00 ∷ 0x00 ∷ 0x00 ∷ 0x01 ∷ 0x02 ∷ 0x03 ∷ 0x04 ∷ 0x05 ∷ 0x06 ∷ 0x07 ∷ 0x08 ∷ 0x00 ∷ 0x10 ∷ 0x00 ∷ 0x00 ∷ [])) (function 0x500 0x600 0x1000)
    ≡ []
unknown_chain = refl

-- the chain of its own unwind information comes back: 31 functions and the finding
endless : length (chain_of (image (0x21 ∷ 0x00 ∷ 0x00 ∷ 0x00 ∷ 0x01 ∷ 0x02 ∷ 0x03 ∷ 0x04 ∷ 0x05 ∷ 0x06 ∷ 0x07 ∷ 0x08 ∷ 0x00 ∷ 0x10 ∷ 0x00 ∷ 0x00 ∷ [])) (function 0x500 0x600 0x1000))
    ≡ 32
endless = refl
