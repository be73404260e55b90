-- The bound import table of an image in a line of JSON.
use Rattle.std.specs.Prelude.{ℕ, ◌+◌, nat_lt, List, [], ◌∷◌, ◌++◌, codes, length, map, Option, None, Some, if◌then◌else◌}
use Rattle.pe_head.specs.declared.directory.Directory.{Directory}
use Rattle.pe_layout.specs.Image.{LaidOut}
use Rattle.pe_records.specs.BoundImports.{bound_imports_in}
use Rattle.pe_records.specs.Records.{table_bytes}
use Rattle.pe_records.specs.Structure.{structure_bytes}
use Rattle.pe_records.specs.declared.bound_imports.BoundImport.{BoundImport}
use Rattle.pe_view.specs.Text.{text_between}
use Rattle.pe_json.specs.JsonText.{member, object, list, number, name}

-- the text before the first zero byte of these
abbrev pub text_in : List ℕ → Option (List ℕ)
text_in bytes = text_between bytes 0 (length bytes)

-- the name at an RVA, if a zero byte ends it in the first 256 bytes that the file holds from there on in one run
abbrev pub module_at : LaidOut → ℕ → Option (List ℕ)
module_at i rva = if nat_lt rva i.size then text_in (structure_bytes i rva 256) else None

unfoldable pub module_if : Option (List ℕ) → List (List ℕ)
module_if None = []
module_if (Some text) = name (codes "module") text ∷ []

unfoldable pub bound_numbers : BoundImport → List (List ℕ)
bound_numbers b =
    number (codes "offset_module_name") b.offset_module_name
    ∷ number (codes "number_of_module_forwarder_refs") b.number_of_module_forwarder_refs ∷ []

-- a record of a table at an RVA, with the name of its module
abbrev pub bound_row : LaidOut → ℕ → BoundImport → List ℕ
bound_row i start b = object
    (number (codes "time_date_stamp") b.time_date_stamp ∷ (bound_numbers b ++ module_if (module_at i (start + b.offset_module_name))))

abbrev pub bound_records : LaidOut → List BoundImport
bound_records i = bound_imports_in (table_bytes i (i.directory 11))

-- the member that lists the records, if there is a table
unfoldable pub bound_members_at : LaidOut → Option Directory → List (List ℕ)
bound_members_at i None = []
bound_members_at i (Some d) = member (codes "bound_imports") (list (map (bound_row i d.rva) (bound_records i))) ∷ []

abbrev pub bound_members : LaidOut → List (List ℕ)
bound_members i = bound_members_at i (i.directory 11)
