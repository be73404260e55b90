-- The export table ("PE Format", The .edata Section).
use Rattle.std.specs.Prelude.{ℕ, ◌+◌, ◌*◌, not, ◌==◌, List, [], ◌∷◌, Option, Some, None, if◌then◌else◌, filter, option_map}
use Rattle.std.specs.List.{filter_map, find, range_with_len}
use Rattle.std.specs.Str.{bytes_eq}
use Rattle.pe_head.specs.declared.directory.Directory.{Directory}
use Rattle.pe_layout.specs.Image.{LaidOut, number_at}
use Rattle.pe_tables.specs.declared.export_table.Table.{Table}
use Rattle.pe_tables.specs.Key.{Key, Ordinal, Name, Target, Rva}
use Rattle.pe_tables.specs.Forwarder.{is_forwarder, forwarder_at}

-- the export directory table at an RVA
abbrev pub table_at : LaidOut → ℕ → Table
table_at i rva = record {
  rva = rva;
  ordinal_base = number_at 4 i (rva + 16);
  entry_count = number_at 4 i (rva + 20);
  name_count = number_at 4 i (rva + 24);
  addresses = number_at 4 i (rva + 28);
  names = number_at 4 i (rva + 32);
  ordinals = number_at 4 i (rva + 36);
}

-- the value of entry k of the export address table
abbrev pub entry : LaidOut → Table → ℕ → ℕ
entry i t k = number_at 4 i (t.addresses + 4 * k)

-- what such a value exports: nothing if it is 0
abbrev pub target_of : LaidOut → Directory → ℕ → Option Target
target_of i d value = if value == 0 then None else if is_forwarder d value then forwarder_at i value else Some (Rva value)

-- the bytes of name k, if it is there, and the index of the export address table entry that it exports
abbrev pub name_text : LaidOut → Table → ℕ → Option (List ℕ)
name_text i t k = i.text (number_at 4 i (t.names + 4 * k))

abbrev pub name_entry : LaidOut → Table → ℕ → ℕ
name_entry i t k = number_at 2 i (t.ordinals + 2 * k)

-- the exports: by ordinal in the order of the export address table; by name, each once, where it first occurs; and the ordinal of
-- each of these names
pub record Exports : Type 0 where
  pub ordinals : List (ℕ × Target)
  pub names : List (List ℕ × Target)
  pub name_ordinals : List ℕ

abbrev pub by_entry : LaidOut → Directory → Table → ℕ → Option (ℕ × Target)
by_entry i d t k = option_map (λ target. (t.ordinal_base + k, target)) (target_of i d (entry i t k))

-- the names that are there, each with its entry's index
abbrev pub named : LaidOut → Table → ℕ → Option (List ℕ × ℕ)
named i t k = option_map (λ text. (text, name_entry i t k)) (name_text i t k)

abbrev pub names_of : LaidOut → Table → List (List ℕ × ℕ)
names_of i t = filter_map (named i t) (range_with_len 0 t.name_count)

-- each name once, where it first occurs
abbrev pub first_of_each : List (List ℕ × ℕ) → List (List ℕ × ℕ)
first_of_each [] = []
first_of_each (n ∷ ns) = n ∷ filter (λ m. not (bytes_eq n.0 m.0)) (first_of_each ns)

abbrev pub by_name : LaidOut → Directory → Table → List ℕ × ℕ → Option (List ℕ × Target)
by_name i d t n = option_map (λ target. (n.0, target)) (target_of i d (entry i t n.1))

abbrev pub ordinal_of : LaidOut → Directory → Table → List ℕ × ℕ → Option ℕ
ordinal_of i d t n = option_map (λ target. t.ordinal_base + n.1) (target_of i d (entry i t n.1))

abbrev pub exports_in : LaidOut → Directory → Table → Exports
exports_in i d t = record {
  ordinals = filter_map (by_entry i d t) (range_with_len 0 t.entry_count);
  names = filter_map (by_name i d t) (first_of_each (names_of i t));
  name_ordinals = filter_map (ordinal_of i d t) (first_of_each (names_of i t));
}

abbrev pub exports_at : LaidOut → Option Directory → Exports
exports_at i None = record { ordinals = []; names = []; name_ordinals = [] }
exports_at i (Some d) = exports_in i d (table_at i d.rva)

-- the exports of an image
abbrev pub exports_of : LaidOut → Exports
exports_of i = exports_at i (i.directory 0)

-- what a key exports, if anything
abbrev pub target_at : Exports → Key → Option Target
target_at e (Ordinal n) = option_map (λ p. p.1) (find (λ p. p.0 == n) e.ordinals)
target_at e (Name text) = option_map (λ p. p.1) (find (λ p. bytes_eq text p.0) e.names)
