-- An image at a base: the number in each fixup's field is relocated by the difference of the base and ImageBase ("PE Format", Base
-- Relocation Types).
use Rattle.std.specs.Prelude.{ℕ, ◌-◌, ◌^◌, Bool, find, Option, None, Some, ℤ, pos, ◌+ℤ◌, ◌-ℤ◌, unsigned_abs}
use Rattle.std.specs.Int.{int_div_euclid, int_rem_euclid}
use Rattle.pe_view.specs.Number.{digit, is_in}
use Rattle.pe_layout.specs.Image.{LaidOut, number_at}
use Rattle.pe_tables.specs.Fixups.{width_of, fixups_of}
use Rattle.pe_tables.specs.declared.fixups.Fixup.{Fixup}
use Rattle.pe_tables.specs.declared.fixups.FixupKind.{FixupKind}
use Rattle.pe_tables.specs.declared.fixups.FixupKind.TheVariants.{Bits32, Bits64, High, Low}

-- what is added to a field if the image is d above ImageBase, where d may be below zero: d itself, or for HIGH d / 65,536 rounded
-- down
abbrev pub amount : FixupKind → ℤ → ℤ
amount High d = int_div_euclid d (pos 65536)
amount Low d = d
amount Bits32 d = d
amount Bits64 d = d

-- a field's number with the amount for d added, modulo what the field holds
unfoldable pub shift : FixupKind → ℕ → ℤ → ℕ
shift kind v d = unsigned_abs (int_rem_euclid (pos v +ℤ amount kind d) (pos (256 ^ width_of kind)))

-- an RVA is one of a field
abbrev pub in_field : ℕ → Fixup → Bool
in_field r f = is_in f.field (width_of f.kind) r

-- what a field holds in the image at a base
abbrev pub shifted : LaidOut → ℕ → Fixup → ℕ
shifted i base f = shift f.kind (number_at (width_of f.kind) i f.field) (pos base -ℤ pos i.image_base)

abbrev pub relocated_by : LaidOut → ℕ → ℕ → Option Fixup → ℕ
relocated_by i base r None = i.byte r
relocated_by i base r (Some f) = digit (shifted i base f) (r - f.field)

-- the byte at an RVA of the image at a base: that of the field that has it, else the laid-out one
abbrev pub relocated : LaidOut → ℕ → ℕ → ℕ
relocated i base r = relocated_by i base r (find (in_field r) (fixups_of i))
