-- The PDB file of an image in a line of JSON: that of the first CodeView record of its debug directory.
use Rattle.std.specs.Prelude.{ℕ, ◌==◌, ◌||◌, Bool, nat_lt, List, [], ◌∷◌, codes, find, option_and_then, Option, None, Some, if◌then◌else◌}
use Rattle.pe_layout.specs.Image.{LaidOut, bytes_at}
use Rattle.pe_records.specs.CodeView.{CodeView, SevenZero, TwoZero, Other, code_view_of}
use Rattle.pe_records.specs.declared.debug.DebugEntry.{DebugEntry}
use Rattle.pe_json.specs.DebugRows.{debug_entries}
use Rattle.pe_json.specs.JsonText.{member, object, number, name, hex_string}

abbrev pub is_code_view : DebugEntry → Bool
is_code_view e = e.kind == 2

-- the data of an entry where it is laid out, if the file holds all of it there in one run
abbrev pub data_at : LaidOut → DebugEntry → Option (List ℕ)
data_at i e =
    if (e.address_of_raw_data == 0) || nat_lt (i.raw_left e.address_of_raw_data) e.size_of_data then None
    else Some (bytes_at i e.address_of_raw_data e.size_of_data)

abbrev pub path_if : Option (List ℕ) → List (List ℕ)
path_if None = []
path_if (Some path) = name (codes "path") path ∷ []

-- a record `RSDS`, or one `NB10`
unfoldable pub code_view_members : CodeView → List (List ℕ)
code_view_members (SevenZero r) = member (codes "pdb") (object (member (codes "guid_hex") (hex_string r.guid) ∷ (number (codes "age") r.age ∷ path_if r.path))) ∷ []
code_view_members (TwoZero r) = member (codes "pdb") (object (number (codes "time_date_stamp") r.time_date_stamp ∷ (number (codes "age") r.age ∷ path_if r.path))) ∷ []
code_view_members Other = []

abbrev pub pdb_in : Option (List ℕ) → List (List ℕ)
pdb_in None = []
pdb_in (Some bytes) = code_view_members (code_view_of bytes)

abbrev pub pdb_members : LaidOut → List (List ℕ)
pdb_members i = pdb_in (option_and_then (data_at i) (find is_code_view (debug_entries i)))
