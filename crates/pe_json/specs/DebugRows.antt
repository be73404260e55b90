-- The debug directory of an image in a line of JSON.
use Rattle.std.specs.Prelude.{ℕ, List, [], ◌∷◌, ◌++◌, codes, map, Option, None, Some}
use Rattle.pe_head.specs.Names.{name_in}
use Rattle.pe_head.specs.declared.directory.Directory.{Directory}
use Rattle.pe_layout.specs.Image.{LaidOut}
use Rattle.pe_records.specs.Debug.{debug_entry_at}
use Rattle.pe_records.specs.Records.{records_in, table_bytes}
use Rattle.pe_records.specs.TableNames.{debug_type_names}
use Rattle.pe_records.specs.declared.debug.DebugEntry.{DebugEntry}
use Rattle.pe_json.specs.JsonText.{member, object, list, number, text_if}

unfoldable pub type_numbers : DebugEntry → List (List ℕ)
type_numbers e =
    number (codes "time_date_stamp") e.time_date_stamp
    ∷ number (codes "major_version") e.major_version
    ∷ number (codes "minor_version") e.minor_version
    ∷ number (codes "type") e.kind ∷ []

unfoldable pub data_numbers : DebugEntry → List (List ℕ)
data_numbers e =
    number (codes "size_of_data") e.size_of_data
    ∷ number (codes "address_of_raw_data") e.address_of_raw_data
    ∷ number (codes "pointer_to_raw_data") e.pointer_to_raw_data ∷ []

-- an entry, with the name of its type
abbrev pub debug_row : DebugEntry → List ℕ
debug_row e = object
    (number (codes "characteristics") e.characteristics
    ∷ (type_numbers e ++ (text_if (codes "type_name") (name_in debug_type_names e.kind) ++ data_numbers e)))

abbrev pub debug_entries : LaidOut → List DebugEntry
debug_entries i = records_in debug_entry_at 28 (table_bytes i (i.directory 6))

-- the member that lists the entries, if there is a debug directory
unfoldable pub debug_members_at : LaidOut → Option Directory → List (List ℕ)
debug_members_at i None = []
debug_members_at i (Some d) = member (codes "debug") (list (map debug_row (debug_entries i))) ∷ []

abbrev pub debug_members : LaidOut → List (List ℕ)
debug_members i = debug_members_at i (i.directory 6)
