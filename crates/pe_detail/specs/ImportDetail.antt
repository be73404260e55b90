-- What the rules of faults 24 to 32 compare.
use Rattle.std.specs.Prelude.{ℕ, ◌+◌, ◌/◌, ◌%◌, ◌^◌, ◌==◌, Option, None, Some, if◌then◌else◌, option_map}
use Rattle.pe_layout.specs.Image.{LaidOut}
use Rattle.pe_detail.specs.declared.detail.Detail.{Detail}
use Rattle.pe_detail.specs.declared.detail.Detail.TheVariants.{Limit, HighBits, TimeStamp}
use Rattle.pe_detail.specs.Numbers.{number_in, past_image, no_text}

-- fault 25: the RVA of a module's name
abbrev pub module_detail : LaidOut → ℕ → Option Detail
module_detail i at = option_map (no_text i) (number_in 4 i at)

-- fault 27: the RVA of a name, two bytes after that in bits 0 to 30 of the lookup entry
abbrev pub name_detail : LaidOut → ℕ → Option Detail
name_detail i at = option_map (λ value. no_text i (value % 2 ^ 31 + 2)) (number_in i.slot_width i at)

-- fault 28: the bits above the name's RVA
abbrev pub bits_detail : LaidOut → ℕ → Option Detail
bits_detail i at = option_map (λ value. HighBits (value / 2 ^ 31)) (number_in i.slot_width i at)

-- fault 32: the time stamp
abbrev pub stamp_detail : LaidOut → ℕ → Option Detail
stamp_detail i at = option_map TimeStamp (number_in 4 i (at + 4))

-- faults 24 to 32 at an RVA
abbrev pub import_detail : LaidOut → ℕ → ℕ → Option Detail
import_detail i number at =
    if number == 24 then Some (past_image i at 20)
    else (if number == 25 then module_detail i at
    else (if number == 26 then Some (past_image i at i.slot_width)
    else (if number == 27 then name_detail i at
    else (if number == 28 then bits_detail i at
    else (if number == 31 then Some (Limit 1048577 1048576)
    else (if number == 32 then stamp_detail i at
    else None))))))
