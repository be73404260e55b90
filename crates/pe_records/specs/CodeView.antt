-- CodeView records: which PDB file belongs to an image.
use Rattle.std.specs.Prelude.{ℕ, Bool, false, ◌==◌, ◌||◌, not, nat_lt, List, length, Option, None, Some, is_none, if◌then◌else◌}
use Rattle.pe_view.specs.Number.{part}
use Rattle.pe_view.specs.Text.{text_between}
use Rattle.pe_records.specs.Records.{number}

-- `RSDS`, and these
pub record Pdb70 : Type 0 where
  pub guid : List ℕ
  pub age : ℕ
  pub path : Option (List ℕ)  -- the bytes before the zero byte at its end, if there is one

-- `NB10`, and these
pub record Pdb20 : Type 0 where
  pub offset : ℕ
  pub time_date_stamp : ℕ
  pub age : ℕ
  pub path : Option (List ℕ)

pub data CodeView : Type 0 where
  SevenZero : Pdb70 → CodeView
  TwoZero : Pdb20 → CodeView
  Other : CodeView

abbrev pub pdb_70_of : List ℕ → Option Pdb70
pdb_70_of bytes =
    if nat_lt (length bytes) 24 || not (number 4 bytes 0 == 0x53445352) then None
    else Some (record { guid = part bytes 4 16; age = number 4 bytes 20; path = text_between bytes 24 (length bytes) })

abbrev pub pdb_20_of : List ℕ → Option Pdb20
pdb_20_of bytes =
    if nat_lt (length bytes) 16 || not (number 4 bytes 0 == 0x3031424e) then None
    else Some (record { offset = number 4 bytes 4; time_date_stamp = number 4 bytes 8; age = number 4 bytes 12; path = text_between bytes 16 (length bytes) })

abbrev pub or_pdb_20 : Option Pdb20 → CodeView
or_pdb_20 None = Other
or_pdb_20 (Some r) = TwoZero r

abbrev pub or_pdb_70 : List ℕ → Option Pdb70 → CodeView
or_pdb_70 bytes None = or_pdb_20 (pdb_20_of bytes)
or_pdb_70 bytes (Some r) = SevenZero r

-- the record in the data of an entry
abbrev pub code_view_of : List ℕ → CodeView
code_view_of bytes = or_pdb_70 bytes (pdb_70_of bytes)

-- it has a path without a zero byte at its end
abbrev pub has_no_end : CodeView → Bool
has_no_end (SevenZero r) = is_none r.path
has_no_end (TwoZero r) = is_none r.path
has_no_end Other = false
