-- Numbers of an image, if they are in it, and why an RVA has no string.
use Rattle.std.specs.Prelude.{ℕ, ◌+◌, nat_lt, Option, None, Some, if◌then◌else◌}
use Rattle.pe_layout.specs.Image.{LaidOut, is_inside, number_at}
use Rattle.pe_detail.specs.declared.detail.Detail.{Detail}
use Rattle.pe_detail.specs.declared.detail.Detail.TheVariants.{PastImage, Outside, Unended}

-- the number in the `width` bytes at an RVA, if they are in the image
abbrev pub number_in : ℕ → LaidOut → ℕ → Option ℕ
number_in width i rva = if is_inside i rva width then Some (number_at width i rva) else None

-- bytes that extend past the end of the image
abbrev pub past_image : LaidOut → ℕ → ℕ → Detail
past_image i rva size = PastImage size rva i.size

-- why there is no string at an RVA: it is past the end of the image, or its bytes come from the file up to the end of their piece,
-- and none of them is zero
abbrev pub no_text : LaidOut → ℕ → Detail
no_text i rva = if nat_lt rva i.size then Unended rva (rva + i.raw_left rva) else Outside rva i.size
