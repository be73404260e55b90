-- Short import objects as C has them.
use Rattle.std.specs.Prelude.{ℕ, List, [], Option, None, Some, unwrap_or, if◌then◌else◌}
use Rattle.pe_view.specs.Faults.{Test}
use Rattle.coff_archive.specs.Imports.{Import, import_name, import_of, import_tests, is_import}
use Rattle.c_tables.specs.declared.import_object.ImportObjectRecord.{ImportObjectRecord}

pub record ImportText : Type 0 where
  pub symbol : List ℕ
  pub «module» : List ℕ
  pub name : List ℕ
  pub time_date_stamp : ℕ
  pub machine : ℕ
  pub ordinal : ℕ
  pub kind : ℕ
  pub name_type : ℕ

abbrev pub import_text : ImportObjectRecord → ImportText
import_text r = record {
  symbol = r.symbol.now;
  «module» = r.«module».now;
  name = r.name.now;
  time_date_stamp = r.time_date_stamp;
  machine = r.machine;
  ordinal = r.ordinal;
  kind = r.kind;
  name_type = r.name_type;
}

-- an import by ordinal has an empty name
abbrev pub import_record : Import → ImportText
import_record i = record {
  symbol = i.symbol;
  «module» = i.«module»;
  name = unwrap_or (import_name i) [];
  time_date_stamp = i.time_stamp;
  machine = i.machine;
  ordinal = i.ordinal;
  kind = i.kind;
  name_type = i.name_type;
}

-- the tests of bytes that begin as a short import object does, and that object
abbrev pub import_checks : List ℕ → List Test
import_checks bytes = if is_import bytes then import_tests 0 bytes else []

abbrev pub import_told : List ℕ → Option ImportText
import_told bytes = if is_import bytes then Some (import_record (import_of bytes)) else None
