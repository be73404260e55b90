-- A CodeView record of the code, with paths as lists.
use Rattle.std.specs.Prelude.{option_map}
use Rattle.pe_records.specs.CodeView as format
use Rattle.pe_records.specs.declared.pdb.CodeView.{CodeView}
use Rattle.pe_records.specs.declared.pdb.CodeView.TheVariants as code
use Rattle.pe_records.specs.declared.pdb.Pdb20.{Pdb20}
use Rattle.pe_records.specs.declared.pdb.Pdb70.{Pdb70}

abbrev pub pdb_70_view : Pdb70 → format.Pdb70
pdb_70_view r = record { guid = r.guid; age = r.age; path = option_map (λ path. path.now) r.path }

abbrev pub pdb_20_view : Pdb20 → format.Pdb20
pdb_20_view r = record { offset = r.offset; time_date_stamp = r.time_date_stamp; age = r.age; path = option_map (λ path. path.now) r.path }

abbrev pub code_view_view : CodeView → format.CodeView
code_view_view (code.Pdb70 r) = format.SevenZero (pdb_70_view r)
code_view_view (code.Pdb20 r) = format.TwoZero (pdb_20_view r)
code_view_view code.Other = format.Other
