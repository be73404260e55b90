-- The fixed part of version information (VS_FIXEDFILEINFO): 52 bytes from offset 40 on, in the block with the key VS_VERSION_INFO.
use Rattle.std.specs.Prelude.{ℕ, ◌/◌, ◌%◌, ◌^◌, ◌==◌, ◌&&◌, nat_le, Bool, List, [], ◌∷◌, ◌++◌, length, Option, Some, None, if◌then◌else◌, codes}
use Rattle.std.specs.Str.{bytes_eq}
use Rattle.pe_view.specs.Number.{num, byte_of, part}
use Rattle.pe_version.specs.Blocks.{word}
use Rattle.pe_version.specs.Parts.{utf16}
use Rattle.pe_version.specs.declared.fixed.FixedInfo.{FixedInfo}

-- the key is VS_VERSION_INFO, with the zero that ends it
abbrev pub has_key : List ℕ → Bool
has_key bytes = nat_le 38 (length bytes) && bytes_eq (part bytes 6 32) (utf16 (codes "VS_VERSION_INFO") ++ 0 ∷ 0 ∷ [])

-- the value of the block has 52 bytes that begin with their signature
abbrev pub has_fixed_info : List ℕ → Bool
has_fixed_info bytes =
    nat_le 92 (length bytes) && (has_key bytes && ((word bytes 2 == 52) && (num (byte_of bytes) 40 4 == 0xfeef04bd)))

-- the four bytes at an offset
abbrev pub field : List ℕ → ℕ → ℕ
field bytes at = num (byte_of bytes) at 4

abbrev pub fixed_info_at : List ℕ → FixedInfo
fixed_info_at bytes = record {
  structure_version = field bytes 44;
  file_version_high = field bytes 48;
  file_version_low = field bytes 52;
  product_version_high = field bytes 56;
  product_version_low = field bytes 60;
  flags_mask = field bytes 64;
  flags = field bytes 68;
  system = field bytes 72;
  kind = field bytes 76;
  subkind = field bytes 80;
  date_high = field bytes 84;
  date_low = field bytes 88;
}

abbrev pub fixed_info_of : List ℕ → Option FixedInfo
fixed_info_of bytes = if has_fixed_info bytes then Some (fixed_info_at bytes) else None

-- the four numbers of a version
abbrev pub version_of : ℕ → ℕ → List ℕ
version_of high low = high / 2 ^ 16 ∷ high % 2 ^ 16 ∷ low / 2 ^ 16 ∷ low % 2 ^ 16 ∷ []
