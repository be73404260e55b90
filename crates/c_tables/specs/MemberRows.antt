-- The members of an archive as C has them.
use Rattle.std.specs.Prelude.{ℕ, Bool, List, [], ◌∷◌, Result, Ok, Err, is_some, unwrap_or, if◌then◌else◌}
use Rattle.std.specs.Str.{bytes_eq}
use Rattle.pe_view.specs.declared.fault.Fault.{Fault}
use Rattle.coff_archive.specs.Front.{linker_field, long_names_field, names_of}
use Rattle.coff_archive.specs.Imports.{is_import}
use Rattle.coff_archive.specs.Members.{Member, date_of, group_of, is_special, members, mode_of, user_of}
use Rattle.coff_archive.specs.Names.{contents_of, name_of}
use Rattle.c_tables.specs.FieldRows.{field_row}
use Rattle.c_tables.specs.declared.field.FieldRow.{FieldRow}
use Rattle.c_tables.specs.declared.member.ArchiveMemberRow.{ArchiveMemberRow}

pub record MemberText : Type 0 where
  pub name : List ℕ
  pub bytes : List ℕ
  pub offset : ℕ
  pub size : ℕ
  pub date : FieldRow
  pub user : FieldRow
  pub group : FieldRow
  pub mode : FieldRow
  pub kind : ℕ
  pub has_name : Bool

abbrev pub member_text : ArchiveMemberRow → MemberText
member_text r = record {
  name = r.name.now;
  bytes = r.bytes.now;
  offset = r.offset;
  size = r.size;
  date = r.date;
  user = r.user;
  group = r.group;
  mode = r.mode;
  kind = r.kind;
  has_name = r.has_name;
}

-- of a member that the archive keeps for itself: 2 a linker member, 3 long names, 4 another
abbrev pub own_kind : List ℕ → ℕ
own_kind field = if bytes_eq field linker_field then 2 else (if bytes_eq field long_names_field then 3 else 4)

-- 5 it is in another file, 1 a short import object, 0 another file
abbrev pub kind_of : Bool → Member → ℕ
kind_of thin m = if is_special m.field then own_kind m.field else (if thin then 5 else (if is_import (contents_of m) then 1 else 0))

-- a member without a name has an empty one
abbrev pub member_row : Bool → List ℕ → Member → MemberText
member_row thin file m = record {
  name = unwrap_or (name_of (names_of thin file) m) [];
  bytes = contents_of m;
  offset = m.offset;
  size = m.size;
  date = field_row (date_of file m.offset);
  user = field_row (user_of file m.offset);
  group = field_row (group_of file m.offset);
  mode = field_row (mode_of file m.offset);
  kind = kind_of thin m;
  has_name = is_some (name_of (names_of thin file) m);
}

-- the members that a walk has read
abbrev pub whole : List (Result Member Fault) → List Member
whole [] = []
whole (Ok m ∷ rest) = m ∷ whole rest
whole (Err fault ∷ rest) = whole rest

-- those of an archive, in file order, up to the first header with a fault
abbrev pub whole_members : Bool → List ℕ → List Member
whole_members thin file = whole (members thin file)
