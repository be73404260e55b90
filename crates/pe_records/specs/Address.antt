-- Addresses of an image that is at its ImageBase.
use Rattle.std.specs.Prelude.{ℕ, ◌-◌, ◌==◌, ◌||◌, ◌&&◌, Bool, false, not, nat_le, nat_lt, is_none, Option, None, Some, if◌then◌else◌}
use Rattle.pe_layout.specs.Image.{LaidOut}

-- the RVA that an address leads to, if it is in the image
abbrev pub rva_of : LaidOut → ℕ → Option ℕ
rva_of i address =
    if nat_lt address i.image_base || nat_le i.size (address - i.image_base) then None else Some (address - i.image_base)

-- there is an address, which leads to no byte of the image; 0 is none
abbrev pub leads_nowhere : LaidOut → Option ℕ → Bool
leads_nowhere i None = false
leads_nowhere i (Some address) = not (address == 0) && is_none (rva_of i address)

-- there is an address, which is neither in the image nor its end; 0 is none
abbrev pub passes : LaidOut → Option ℕ → Bool
passes i None = false
passes i (Some address) = not (address == 0) && (nat_lt address i.image_base || nat_lt i.size (address - i.image_base))
