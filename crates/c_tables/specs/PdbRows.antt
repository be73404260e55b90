-- The PDB file of an image as C has it, with strings as their bytes.
use Rattle.std.specs.Prelude.{ℕ, ◌==◌, Bool, List, [], replicate, Option, None, Some, is_some, option_and_then, unwrap_or, if◌then◌else◌}
use Rattle.std.specs.List.{find}
use Rattle.pe_layout.specs.Image.{LaidOut}
use Rattle.pe_records.specs.CodeView.{CodeView, SevenZero, TwoZero, Other, Pdb20, Pdb70, code_view_of}
use Rattle.pe_records.specs.Debug.{data_of}
use Rattle.pe_records.specs.declared.debug.DebugEntry.{DebugEntry}
use Rattle.c_tables.specs.DebugRows.{debug_entries}
use Rattle.c_tables.specs.declared.pdb.PdbRecord.{PdbRecord}

-- of kind 0 PDB 7.0, 1 PDB 2.0
pub record PdbText : Type 0 where
  pub path : List ℕ
  pub kind : ℕ
  pub age : ℕ
  pub guid : List ℕ
  pub time_date_stamp : ℕ
  pub offset : ℕ

abbrev pub pdb_text : PdbRecord → PdbText
pdb_text r = record {
  path = r.path.now;
  kind = r.kind;
  age = r.age;
  guid = r.guid;
  time_date_stamp = r.time_date_stamp;
  offset = r.offset;
}

-- a path that no zero byte ends is empty
abbrev pub path_of : Option (List ℕ) → List ℕ
path_of path = unwrap_or path []

abbrev pub pdb_70_text : Pdb70 → PdbText
pdb_70_text r = record { path = path_of r.path; kind = 0; age = r.age; guid = r.guid; time_date_stamp = 0; offset = 0 }

abbrev pub pdb_20_text : Pdb20 → PdbText
pdb_20_text r = record {
  path = path_of r.path;
  kind = 1;
  age = r.age;
  guid = replicate 16 0;
  time_date_stamp = r.time_date_stamp;
  offset = r.offset;
}

-- what a CodeView record names
abbrev pub pdb_in : CodeView → Option PdbText
pdb_in (SevenZero r) = Some (pdb_70_text r)
pdb_in (TwoZero r) = Some (pdb_20_text r)
pdb_in Other = None

-- what an entry of the debug directory names
abbrev pub entry_pdb : List ℕ → DebugEntry → Option PdbText
entry_pdb file e = if e.kind == 2 then option_and_then (λ bytes. pdb_in (code_view_of bytes)) (data_of file e) else None

abbrev pub names_pdb : List ℕ → DebugEntry → Bool
names_pdb file e = is_some (entry_pdb file e)

-- what the first entry names that names one
abbrev pub pdb_of : LaidOut → List ℕ → Option PdbText
pdb_of i file = option_and_then (entry_pdb file) (find (names_pdb file) (debug_entries i))
