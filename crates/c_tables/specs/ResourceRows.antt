-- The leaves of the resource tree as C has them.
use Rattle.std.specs.Prelude.{ℕ, ◌%◌, ◌^◌, List, [], nat_le, Option, None, Some, unwrap_or, if◌then◌else◌}
use Rattle.pe_layout.specs.Image.{LaidOut}
use Rattle.pe_resources.specs.Texts.{data_of, name_text_of}
use Rattle.pe_resources.specs.declared.leaf.Leaf.{Leaf}
use Rattle.c_tables.specs.declared.resource.ResourceNameRecord.{ResourceNameRecord}
use Rattle.c_tables.specs.declared.resource.ResourceRow.{ResourceRow}

pub record NameText : Type 0 where
  pub text : List ℕ
  pub number : ℕ
  pub kind : ℕ

abbrev pub name_text : ResourceNameRecord → NameText
name_text r = record { text = r.text.now; number = r.number; kind = r.kind }

-- what an entry's name says: with its top bit the offset of a text, otherwise an id
abbrev pub entry_name : LaidOut → ℕ → NameText
entry_name i n =
    if nat_le (2 ^ 31) n then record { text = unwrap_or (name_text_of i n) []; number = n % 2 ^ 31; kind = 2 }
    else record { text = []; number = n; kind = 1 }

-- that of a level, if the tree has it there
abbrev pub level_name : LaidOut → Option ℕ → NameText
level_name i None = record { text = []; number = 0; kind = 0 }
level_name i (Some n) = entry_name i n

pub record ResourceText : Type 0 where
  pub kind : NameText
  pub name : NameText
  pub language : NameText
  pub bytes : List ℕ
  pub rva : ℕ
  pub size : ℕ
  pub code_page : ℕ

abbrev pub resource_text : ResourceRow → ResourceText
resource_text r = record {
  kind = name_text r.kind;
  name = name_text r.name;
  language = name_text r.language;
  bytes = r.bytes.now;
  rva = r.rva;
  size = r.size;
  code_page = r.code_page;
}

-- data that the file does not hold in one run are empty
abbrev pub resource_row : LaidOut → Leaf → ResourceText
resource_row i leaf = record {
  kind = level_name i leaf.path.kind;
  name = level_name i leaf.path.name;
  language = level_name i leaf.path.language;
  bytes = unwrap_or (data_of i leaf) [];
  rva = leaf.rva;
  size = leaf.size;
  code_page = leaf.code_page;
}
