-- The strings that an iterator over version information has yet to return.
use Rattle.std.specs.Prelude.{List, ◌++◌, map, flat_map}
use Rattle.pe_version.specs.Strings.{Text, text_in, texts_of}
use Rattle.pe_version.specs.TablesLeft.{entries_left, tables_left}
use Rattle.pe_version.specs.declared.strings.VersionString.{VersionString}
use Rattle.pe_version.specs.declared.strings.VersionStrings.{VersionStrings}

abbrev pub string_view : VersionString → Text
string_view s = record { table = s.table.now; key = s.key.now; value = s.value.now }

-- those of the table that was reached, and of the tables after it
abbrev pub strings_left : VersionStrings → List Text
strings_left s = map (text_in s.table.now) (entries_left s.strings) ++ flat_map texts_of (tables_left s.tables)
