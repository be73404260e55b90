-- The alignment that the flags of an object's section tell ("PE Format", Section Flags): IMAGE_SCN_ALIGN_1BYTES is 0x0010_0000,
-- IMAGE_SCN_ALIGN_2BYTES 0x0020_0000, and so on to IMAGE_SCN_ALIGN_8192BYTES, 0x00e0_0000.
use Rattle.std.specs.Prelude.{ℕ, ◌-◌, ◌/◌, ◌%◌, ◌^◌, ◌&&◌, nat_le, Option, None, Some, if◌then◌else◌}

-- of the number in bits 20 to 23
abbrev pub alignment_by : ℕ → Option ℕ
alignment_by number = if nat_le 1 number && nat_le number 14 then Some (2 ^ (number - 1)) else None

-- in bytes, if there is one
abbrev pub alignment_of : ℕ → Option ℕ
alignment_of flags = alignment_by (flags / 2 ^ 20 % 16)
