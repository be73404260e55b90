-- Version information as C has it.
use Rattle.std.specs.Prelude.{ℕ, Bool, List, [], find, Option, None, Some, option_and_then, option_map}
use Rattle.std.specs.Str.{bytes_eq}
use Rattle.pe_layout.specs.Image.{LaidOut}
use Rattle.pe_version.specs.FixedInfo.{fixed_info_of, version_of}
use Rattle.pe_version.specs.Parts.{utf16}
use Rattle.pe_version.specs.Strings.{Text, strings_of}
use Rattle.pe_version.specs.declared.fixed.FixedInfo.{FixedInfo}
use Rattle.c_tables.specs.Kinds.{version_data}
use Rattle.c_tables.specs.declared.version.VersionInfoRecord.{VersionInfoRecord}
use Rattle.c_tables.specs.declared.version_text.VersionTextRow.{VersionTextRow}

abbrev pub version_record : FixedInfo → VersionInfoRecord
version_record f = record {
  file_version = version_of f.file_version_high f.file_version_low;
  product_version = version_of f.product_version_high f.product_version_low;
  flags_mask = f.flags_mask;
  flags = f.flags;
  system = f.system;
  kind = f.kind;
  subkind = f.subkind;
}

-- the fixed part of version information, if the image has any that the file holds in one run
abbrev pub version_told : LaidOut → Option VersionInfoRecord
version_told i = option_map version_record (option_and_then fixed_info_of (version_data i))

abbrev pub strings_in : Option (List ℕ) → List Text
strings_in None = []
strings_in (Some bytes) = strings_of bytes

-- its strings
abbrev pub version_strings : LaidOut → List Text
version_strings i = strings_in (version_data i)

abbrev pub version_text : VersionTextRow → Text
version_text r = record { table = r.table.now; key = r.key.now; value = r.value.now }

-- the key of the string is a text in ASCII
abbrev pub has_key : List ℕ → Text → Bool
has_key key s = bytes_eq s.key (utf16 key)

-- what the first string with a key says
abbrev pub value_of : List ℕ → List Text → Option (List ℕ)
value_of key strings = option_map (λ s. s.value) (find (has_key key) strings)
