-- The two forms of the optional header.
use Rattle.std.specs.Prelude.{ℕ}
use Rattle.pe_head.specs.declared.optional.Magic.{Magic}
use Rattle.pe_head.specs.declared.optional.Magic.TheVariants.{Pe32, Pe32Plus}

-- the field Magic
abbrev pub magic_number : Magic → ℕ
magic_number Pe32 = 0x10b
magic_number Pe32Plus = 0x20b

-- the size of the optional header before its directories
abbrev pub fixed_size_of : Magic → ℕ
fixed_size_of Pe32 = 96
fixed_size_of Pe32Plus = 112

-- the offset of ImageBase in the optional header, and its size
abbrev pub image_base_offset : Magic → ℕ
image_base_offset Pe32 = 28
image_base_offset Pe32Plus = 24

abbrev pub image_base_width : Magic → ℕ
image_base_width Pe32 = 4
image_base_width Pe32Plus = 8
