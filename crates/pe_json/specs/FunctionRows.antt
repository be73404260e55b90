-- The functions of an image's exception table in a line of JSON.
use Rattle.std.specs.Prelude.{ℕ, Bool, true, false, List, [], ◌∷◌, ◌++◌, codes, length, map, Option, None, Some, if◌then◌else◌}
use Rattle.pe_head.specs.declared.directory.Directory.{Directory}
use Rattle.pe_layout.specs.Image.{LaidOut}
use Rattle.pe_records.specs.ArmFunctions.{arm_function_at}
use Rattle.pe_records.specs.Exceptions.{is_amd64, is_arm}
use Rattle.pe_records.specs.Functions.{function_at}
use Rattle.pe_records.specs.Records.{records_in, table_bytes}
use Rattle.pe_records.specs.declared.arm_function.ArmFunction.{ArmFunction}
use Rattle.pe_records.specs.declared.function.Function.{Function}
use Rattle.pe_json.specs.JsonText.{member, object, list, number}

-- how many functions the bytes of a table have, if the machine's tables have a form that is known
abbrev pub function_count_in : ℕ → List ℕ → Option ℕ
function_count_in machine bytes =
    if is_amd64 machine then Some (length (records_in function_at 12 bytes))
    else (if is_arm machine then Some (length (records_in arm_function_at 8 bytes)) else None)

abbrev pub count_member : Option ℕ → List (List ℕ)
count_member None = []
count_member (Some count) = number (codes "function_count") count ∷ []

-- a function of AMD64: where it begins and ends, and where its unwind information is
abbrev pub function_row : Function → List ℕ
function_row f = object (number (codes "begin") f.begin ∷ number (codes "end") f.end ∷ number (codes "unwind") f.unwind ∷ [])

-- one of ARM64 or ARMNT: where it begins, and where its unwind record is, or that record, packed
abbrev pub arm_function_row : ArmFunction → List ℕ
arm_function_row f = object (number (codes "begin") f.begin ∷ number (codes "unwind") f.unwind ∷ [])

abbrev pub rows_in : ℕ → List ℕ → Option (List (List ℕ))
rows_in machine bytes =
    if is_amd64 machine then Some (map function_row (records_in function_at 12 bytes))
    else (if is_arm machine then Some (map arm_function_row (records_in arm_function_at 8 bytes)) else None)

unfoldable pub list_member : Option (List (List ℕ)) → List (List ℕ)
list_member None = []
list_member (Some rows) = member (codes "functions") (list rows) ∷ []

-- the functions, if they are listed
abbrev pub listed_if : Bool → Option (List (List ℕ)) → List (List ℕ)
listed_if false rows = []
listed_if true rows = list_member rows

-- their number, if there is an exception directory, and the functions themselves if they are asked for
unfoldable pub function_members_at : Bool → ℕ → LaidOut → Option Directory → List (List ℕ)
function_members_at listed machine i None = []
function_members_at listed machine i (Some d) =
    let bytes = table_bytes i (i.directory 3) in count_member (function_count_in machine bytes) ++ listed_if listed (rows_in machine bytes)

abbrev pub function_members : Bool → ℕ → LaidOut → List (List ℕ)
function_members listed machine i = function_members_at listed machine i (i.directory 3)
