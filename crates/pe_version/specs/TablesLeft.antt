-- The string tables that an iterator over version information has yet to return, and the strings that one over a table has.
use Rattle.std.specs.Prelude.{◌≡◌, ℕ, ◌+◌, ◌-◌, ◌*◌, ◌^◌, ◌<◌, Bool, true, false, List, [], ◌++◌}
use Rattle.pe_view.specs.View.{bytes_of}
use Rattle.pe_version.specs.Steps.{over}
use Rattle.pe_version.specs.Tables.{Entry, Table, nothing, entry_at, table_at, file_tables}
use Rattle.pe_version.specs.declared.tables.TableString.{TableString}
use Rattle.pe_version.specs.declared.tables.TableStrings.{TableStrings}
use Rattle.pe_version.specs.declared.tables.VersionTable.{VersionTable}
use Rattle.pe_version.specs.declared.tables.VersionTables.{VersionTables}

abbrev pub entry_view : TableString → Entry
entry_view s = record { key = s.key.now; value = s.value.now }

abbrev pub entries_left : TableStrings → List Entry
entries_left s = over (entry_at (bytes_of s.strings.view)) nothing s.strings

abbrev pub table_view : VersionTable → Table
table_view t = record { key = t.key.now; strings = entries_left t.strings }

-- the tables of the block that was reached, and of the blocks after it
abbrev pub tables_left : VersionTables → List Table
tables_left t = over (table_at (bytes_of t.tables.view)) nothing t.tables ++ over (file_tables (bytes_of t.files.view)) nothing t.files

-- how far it still has to go: a block weighs more than all tables of one
abbrev pub table_distance : VersionTables → ℕ
table_distance t = (2 ^ 18 - t.files.at) * 2 ^ 20 + (2 ^ 18 - t.tables.at)

-- it went on, past no table, or nothing is left
abbrev pub GoesOnTo : VersionTables → Bool → VersionTables → Type 0
GoesOnTo old true new = (tables_left new ≡ tables_left old) × (table_distance new < table_distance old)
GoesOnTo old false new = (tables_left old ≡ []) × (tables_left new ≡ [])
