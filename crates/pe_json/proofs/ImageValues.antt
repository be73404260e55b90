-- What a line says of an image is JSON.
use Rattle.std.proofs.Common.{◌≡◌, ℕ, suc, Bool, true, false, List, [], ◌∷◌, codes, refl, Option, None, Some, option_map}
use Rattle.std.specs.Prelude.{⊤, ◌==◌, cond, bit_and, ◌^◌, if◌then◌else◌}
use Rattle.std.specs.List.{find, list_all, range_with_len}
use Rattle.std.proofs.lemmas.Bool.{and_parts}
use Rattle.pe_head.specs.Names.{Names, name_in, machine_names, subsystem_names, directory_names, characteristic_names, dll_characteristic_names, section_flag_names, flag_names}
use Rattle.pe_head.specs.declared.names.FlagKind.{FlagKind}
use Rattle.pe_head.specs.declared.names.FlagKind.TheVariants as flags
use Rattle.pe_head.specs.declared.directory.Directory.{Directory}
use Rattle.pe_head.specs.declared.headers.Headers.{Headers}
use Rattle.pe_head.specs.declared.optional.Magic.{Magic}
use Rattle.pe_head.specs.declared.optional.Magic.TheVariants.{Pe32, Pe32Plus}
use Rattle.pe_head.specs.declared.section.SectionHeader.{SectionHeader}
use Rattle.coff_read.specs.declared.headers.FileHeader.{FileHeader}
use Rattle.coff_read.specs.ImageNames.{section_name}
use Rattle.pe_tables.specs.Key.{Key, Ordinal, Name, Target, Rva, Forward}
use Rattle.pe_tables.specs.Exports.{Exports}
use Rattle.pe_tables.specs.ExportNames.{indexed}
use Rattle.pe_tables.specs.Imports.{Import}
use Rattle.pe_tables.specs.declared.fixups.Fixup.{Fixup}
use Rattle.pe_tables.specs.declared.fixups.FixupKind.{FixupKind}
use Rattle.pe_tables.specs.declared.fixups.FixupKind.TheVariants.{Bits32, Bits64, High, Low}
use Rattle.pe_json.specs.JsonText.{list}
use Rattle.pe_json.specs.Flags.{quoted_if, flag_at, flag_items, flags_member}
use Rattle.pe_json.specs.Headers.{coff_numbers, coff_members, file_header, standard_members, base_of_data_members, version_members, size_members, last_members, optional_members, headers_object, place_members, directory_row, directories_list}
use Rattle.pe_json.specs.Sections.{is_same, without_zeros, short_unless, short_name, name_members, section_fields, section_members, section_row, sections_list}
use Rattle.pe_json.specs.TableRows.{key_member, import_row, kind_member, fixup_row}
use Rattle.pe_json.specs.ExportRows.{name_if, target_members, export_row, name_at, row_if, own_rows, ordinal_rows, export_rows}
use Rattle.pe_json.specs.ImageLine.{format_name, head_members, exports_members, imports_members, fixups_members}
use Rattle.pe_json.proofs.Printed.{IsValue, IsMember, AreValues, AreMembers, ascii, is_word, items_value, members_value}
use Rattle.pe_json.proofs.Shown.{are_ascii}
use Rattle.pe_json.proofs.JsonMembers.{IsAsciiText, IfUtf8, is_member, number_member, word_member, name_member, wide_member, members_then, text_members, row_values, numbered_values, flat_values}

-- ---- names in tables
-- the names of a table are ASCII
abbrev pub are_ascii_names : Names → Bool
are_ascii_names = list_all (λ row. are_ascii row.1)

-- a text is ASCII, if there is one
abbrev IfAscii : Option (List ℕ) → Type 0
IfAscii None = ⊤
IfAscii (Some t) = IsAsciiText t

named_ascii : (names : Names) (value : ℕ) → are_ascii_names names ≡ true → IfAscii (name_in names value)
named_ascii [] value h = tt
named_ascii (row ∷ rows) value h = by (row.0 == value) (named_ascii rows value (and_parts _ _ h).1)
  where
    by : (b : Bool) → IfAscii (name_in rows value) → IfAscii (option_map (λ (row : ℕ × List ℕ). row.1) (cond b (Some row) (find (λ (row : ℕ × List ℕ). row.0 == value) rows)))
    by true others = (and_parts _ _ h).0
    by false others = others

ascii_if : (t : Option (List ℕ)) → IfAscii t → IfUtf8 t
ascii_if None h = tt
ascii_if (Some t) h = ascii t h

pub named : (names : Names) (value : ℕ) → are_ascii_names names ≡ true → IfUtf8 (name_in names value)
named names value h = ascii_if (name_in names value) (named_ascii names value h)

pub machines_ascii : are_ascii_names machine_names ≡ true
unfolding machine_names
machines_ascii = refl

subsystems_ascii : are_ascii_names subsystem_names ≡ true
unfolding subsystem_names
subsystems_ascii = refl

directories_ascii : are_ascii_names directory_names ≡ true
unfolding directory_names
directories_ascii = refl

flags_ascii : (kind : FlagKind) → are_ascii_names (flag_names kind) ≡ true
unfolding characteristic_names dll_characteristic_names section_flag_names
flags_ascii flags.File = refl
flags_ascii flags.Dll = refl
flags_ascii flags.Section = refl

-- ---- flags
quoted_values : (limit : ℕ) (t : Option (List ℕ)) → IfAscii t → AreValues limit (quoted_if t)
quoted_values limit None h = tt
quoted_values limit (Some t) h = (is_word limit t h, tt)

flag_ascii : (names : Names) (flags place : ℕ) → are_ascii_names names ≡ true → IfAscii (flag_at names flags place)
flag_ascii names flags place h = by (bit_and flags (2 ^ place) == 0)
  where
    by : (b : Bool) → IfAscii (if b then None else name_in names (bit_and flags (2 ^ place)))
    by true = tt
    by false = named_ascii names (bit_and flags (2 ^ place)) h

pub is_flags_member : (limit : ℕ) (key : List ℕ) (kind : FlagKind) (flags : ℕ) → IsAsciiText key → IsMember (suc limit) (flags_member key kind flags)
is_flags_member limit key kind flags key_ascii =
    is_member (suc limit) key (list (flag_items (flag_names kind) flags 32)) key_ascii
    (items_value limit (flag_items (flag_names kind) flags 32)
    (flat_values limit (λ place. quoted_if (flag_at (flag_names kind) flags place)) (range_with_len 0 32)
    (λ place. quoted_values limit (flag_at (flag_names kind) flags place) (flag_ascii (flag_names kind) flags place (flags_ascii kind)))))

-- ---- the headers
coff_number_members : (limit : ℕ) (h : FileHeader) → AreMembers (suc limit) (coff_numbers h)
unfolding coff_numbers
coff_number_members limit h = search (number_member, is_flags_member)

pub are_coff_members : (limit : ℕ) (h : FileHeader) → AreMembers (suc limit) (coff_members h)
are_coff_members limit h = (
  number_member _ _ _ refl,
  members_then _ _ (coff_numbers h) (text_members (suc limit) _ (name_in machine_names h.machine) refl (named machine_names h.machine machines_ascii)) (coff_number_members limit h),
)

are_standard : (limit : ℕ) (h : Headers) → AreMembers limit (standard_members h)
unfolding standard_members
are_standard limit h = search number_member

are_base_of_data : (limit : ℕ) (rva : Option ℕ) → AreMembers limit (base_of_data_members rva)
unfolding base_of_data_members
are_base_of_data limit None = tt
are_base_of_data limit (Some rva) = (number_member _ _ _ refl, tt)

are_versions : (limit : ℕ) (h : Headers) → AreMembers limit (version_members h)
unfolding version_members
are_versions limit h = search (number_member, wide_member)

are_sizes : (limit : ℕ) (h : Headers) → AreMembers limit (size_members h)
unfolding size_members
are_sizes limit h = search number_member

are_last : (limit : ℕ) (h : Headers) → AreMembers (suc limit) (last_members h)
unfolding last_members
are_last limit h = search (number_member, wide_member, is_flags_member)

are_optional : (limit : ℕ) (h : Headers) → AreMembers (suc limit) (optional_members h)
are_optional limit h =
    members_then _ (standard_members h) _ (are_standard _ h)
    (members_then _ (base_of_data_members h.base_of_data) _ (are_base_of_data _ h.base_of_data)
    (members_then _ (version_members h) _ (are_versions _ h)
    (members_then _ (size_members h) _ (are_sizes _ h)
    (members_then _ _ (last_members h) (text_members (suc limit) _ (name_in subsystem_names h.subsystem) refl (named subsystem_names h.subsystem subsystems_ascii)) (are_last limit h)))))

headers_value : (limit : ℕ) (h : Headers) → IsValue (suc (suc limit)) (headers_object h)
headers_value limit h = members_value (suc limit) _ (members_then _ (coff_members (file_header h)) (optional_members h) (are_coff_members limit (file_header h)) (are_optional limit h))

-- ---- the directories
are_place : (limit : ℕ) (d : Directory) → AreMembers limit (place_members d)
unfolding place_members
are_place limit d = (number_member _ _ _ refl, (number_member _ _ _ refl, tt))

directory_value : (limit index : ℕ) (d : Directory) → IsValue (suc limit) (directory_row index d)
directory_value limit index d =
    members_value limit _ (number_member _ _ _ refl, members_then _ _ (place_members d) (text_members limit _ (name_in directory_names index) refl (named directory_names index directories_ascii)) (are_place limit d))

directories_value : (limit : ℕ) (directories : List Directory) → IsValue (suc (suc limit)) (directories_list directories)
directories_value limit directories = items_value (suc limit) _ (numbered_values (suc limit) directory_row 0 directories (directory_value limit))

-- ---- the sections
are_short : (limit : ℕ) (b : Bool) (field : List ℕ) → AreMembers limit (short_unless b field)
are_short limit true field = tt
are_short limit false field = (name_member _ _ _ refl refl, tt)

are_short_name : (limit : ℕ) (t field : List ℕ) → AreMembers limit (short_name t field)
unfolding short_name
are_short_name limit t field = are_short limit (is_same (without_zeros field) t) (without_zeros field)

are_name : (limit : ℕ) (t : List ℕ) → AreMembers limit (name_members t)
unfolding name_members
are_name limit t = (name_member _ _ _ refl refl, tt)

are_section_fields : (limit : ℕ) (s : SectionHeader) → AreMembers (suc limit) (section_fields s)
unfolding section_fields
are_section_fields limit s = search (number_member, is_flags_member)

pub are_section_members : (limit : ℕ) (t : List ℕ) (s : SectionHeader) → AreMembers (suc limit) (section_members t s)
are_section_members limit t s =
    members_then _ (name_members t) _ (are_name _ t) (members_then _ (short_name t s.name) (section_fields s) (are_short_name _ t s.name) (are_section_fields limit s))

section_value : (limit : ℕ) (strings : Option (List ℕ)) (index : ℕ) (s : SectionHeader) → IsValue (suc (suc limit)) (section_row strings index s)
section_value limit strings index s = members_value (suc limit) _ (number_member _ _ _ refl, are_section_members limit (section_name strings s.name) s)

sections_value : (limit : ℕ) (strings : Option (List ℕ)) (sections : List SectionHeader) → IsValue (suc (suc (suc limit))) (sections_list strings sections)
sections_value limit strings sections = items_value (suc (suc limit)) _ (numbered_values (suc (suc limit)) (section_row strings) 0 sections (section_value limit strings))

-- ---- what the headers say
format_ascii : (magic : Magic) → IsAsciiText (format_name magic)
format_ascii Pe32 = refl
format_ascii Pe32Plus = refl

pub are_head_members : (limit : ℕ) (strings : Option (List ℕ)) (h : Headers) → AreMembers (suc (suc (suc limit))) (head_members strings h)
unfolding head_members
are_head_members limit strings h = (
  word_member _ _ (format_name h.magic) refl (format_ascii h.magic),
  (
    number_member _ _ _ refl,
    (
      is_member _ _ _ refl (headers_value (suc limit) h),
      (is_member _ _ _ refl (directories_value (suc limit) h.directories.items), (is_member _ _ _ refl (sections_value limit strings h.sections.items), tt)),
    ),
  ),
)

-- ---- exports
is_key_member : (limit : ℕ) (key : Key) → IsMember limit (key_member key)
unfolding key_member
is_key_member limit (Ordinal ordinal) = number_member _ _ _ refl
is_key_member limit (Name t) = name_member _ _ _ refl refl

are_name_if : (limit : ℕ) (t : Option (List ℕ)) → AreMembers limit (name_if t)
unfolding name_if
are_name_if limit None = tt
are_name_if limit (Some t) = (name_member _ _ _ refl refl, tt)

are_target : (limit : ℕ) (target : Target) → AreMembers (suc limit) (target_members target)
unfolding target_members
are_target limit (Rva rva) = (number_member _ _ _ refl, tt)
are_target limit (Forward t key) = (is_member _ _ _ refl (members_value limit _ (name_member _ _ _ refl refl, (is_key_member limit key, tt))), tt)

export_value : (limit ordinal : ℕ) (t : Option (List ℕ)) (target : Target) → IsValue (suc (suc limit)) (export_row ordinal t target)
unfolding export_row
export_value limit ordinal t target =
    members_value (suc limit) _ (number_member _ _ _ refl, members_then _ (name_if t) (target_members target) (are_name_if _ t) (are_target limit target))

row_if_values : (limit ordinal : ℕ) (target : Target) (t : Option (List ℕ)) → AreValues (suc (suc limit)) (row_if ordinal target t)
row_if_values limit ordinal target None = tt
row_if_values limit ordinal target (Some t) = (export_value limit ordinal (Some t) target, tt)

own_values : (limit : ℕ) (exports : List (List ℕ × Target)) (ordinal : ℕ) (target : Target) (names : List (ℕ × ℕ)) → AreValues (suc (suc limit)) (own_rows exports ordinal target names)
own_values limit exports ordinal target [] = (export_value limit ordinal None target, tt)
own_values limit exports ordinal target (own ∷ names) =
    flat_values (suc (suc limit)) (λ (name : ℕ × ℕ). row_if ordinal target (name_at exports name.1)) (own ∷ names) (λ name. row_if_values limit ordinal target (name_at exports name.1))

pub are_exports_members : (limit : ℕ) (exports : Exports) → AreMembers (suc (suc (suc limit))) (exports_members exports)
unfolding exports_members
are_exports_members limit exports = (
  is_member _ _ _ refl
      (items_value (suc (suc limit)) (export_rows exports)
      (flat_values (suc (suc limit)) (ordinal_rows exports.names (indexed exports.name_ordinals)) exports.ordinals (λ pair. own_values limit exports.names pair.0 pair.1 _))),
  tt,
)

-- ---- imports and base relocations
pub import_value : (limit : ℕ) (i : Import) → IsValue (suc limit) (import_row i)
unfolding import_row
import_value limit i = members_value limit _ (name_member _ _ _ refl refl, (is_key_member limit i.key, (number_member _ _ _ refl, tt)))

pub are_imports_members : (limit : ℕ) (imports : List Import) → AreMembers (suc (suc limit)) (imports_members imports)
unfolding imports_members
are_imports_members limit imports = (is_member _ _ _ refl (items_value (suc limit) _ (row_values (suc limit) import_row imports (import_value limit))), tt)

is_kind_member : (limit : ℕ) (kind : FixupKind) → IsMember limit (kind_member kind)
unfolding kind_member
is_kind_member limit Bits32 = number_member _ _ _ refl
is_kind_member limit Bits64 = number_member _ _ _ refl
is_kind_member limit High = word_member _ _ (codes "high") refl refl
is_kind_member limit Low = word_member _ _ (codes "low") refl refl

fixup_value : (limit : ℕ) (f : Fixup) → IsValue (suc limit) (fixup_row f)
unfolding fixup_row
fixup_value limit f = members_value limit _ (number_member _ _ _ refl, (is_kind_member limit f.kind, tt))

pub are_fixups_members : (limit : ℕ) (fixups : List Fixup) → AreMembers (suc (suc limit)) (fixups_members fixups)
unfolding fixups_members
are_fixups_members limit fixups = (is_member _ _ _ refl (items_value (suc limit) _ (row_values (suc limit) fixup_row fixups (fixup_value limit))), tt)
