-- What a line says of resources is JSON.
use Rattle.std.proofs.Common.{◌≡◌, ◌^◌, ℕ, suc, Bool, true, false, List, [], ◌∷◌, ◌++◌, codes, refl, map, Option, None, Some, option_map, option_and_then}
use Rattle.std.specs.Prelude.{nat_le, if◌then◌else◌}
use Rattle.json.specs.Print.{quoted}
use Rattle.pe_head.specs.declared.directory.Directory.{Directory}
use Rattle.pe_layout.specs.Image.{LaidOut}
use Rattle.pe_resources.specs.Single.{manifest_of, version_of}
use Rattle.pe_resources.specs.Texts.{data_of, name_text_of}
use Rattle.pe_resources.specs.Walk.{leaves_of}
use Rattle.pe_resources.specs.declared.leaf.Leaf.{Leaf}
use Rattle.pe_version.specs.FixedInfo.{fixed_info_of}
use Rattle.pe_version.specs.Tables.{Entry, Table, tables_of}
use Rattle.pe_version.specs.declared.fixed.FixedInfo.{FixedInfo}
use Rattle.pe_json.specs.JsonText.{number, text_if}
use Rattle.pe_json.specs.ResourceRows.{entry_name, leaf_names, leaf_numbers, leaf_row, leaves_members, level_name, manifest_if, manifest_members, resource_members, told_units}
use Rattle.pe_json.specs.Utf16.{utf8_text}
use Rattle.pe_json.specs.VersionRows.{fixed_members, four_numbers, kind_numbers, string_row, table_row, tables_member, units_member, version_at, version_in, version_members, version_numbers}
use Rattle.pe_json.proofs.Printed.{IsMember, IsValue, AreMembers, AreValues, is_number, items_value, members_value}
use Rattle.pe_json.proofs.JsonMembers.{IfUtf8, IsAsciiText, is_member, members_then, name_member, number_member, row_values, string_member, text_members}
use Rattle.pe_json.proofs.Utf16Texts.{text_is_utf8}

-- ---- the leaves of the tree
texts_utf8 : (text : Option (List ℕ)) → IfUtf8 (option_map utf8_text text)
texts_utf8 None = tt
texts_utf8 (Some units) = text_is_utf8 units

are_entry_names : (limit : ℕ) (i : LaidOut) (key : List ℕ) (n : ℕ) → IsAsciiText key → AreMembers limit (entry_name i key n)
unfolding entry_name
are_entry_names limit i key n key_ascii = by (nat_le (2 ^ 31) n)
  where
    by : (b : Bool) → AreMembers limit (if b then text_if key (option_map utf8_text (option_map told_units (name_text_of i n))) else number key n ∷ [])
    by true = text_members limit key (option_map utf8_text (option_map told_units (name_text_of i n))) key_ascii (texts_utf8 (option_map told_units (name_text_of i n)))
    by false = (number_member limit key n key_ascii, tt)

are_levels : (limit : ℕ) (i : LaidOut) (key : List ℕ) (n : Option ℕ) → IsAsciiText key → AreMembers limit (level_name i key n)
are_levels limit i key None key_ascii = tt
are_levels limit i key (Some n) key_ascii = are_entry_names limit i key n key_ascii

are_leaf_names : (limit : ℕ) (i : LaidOut) (leaf : Leaf) → AreMembers limit (leaf_names i leaf)
are_leaf_names limit i leaf =
    members_then _ (level_name i (codes "type") leaf.path.kind) _ (are_levels _ i (codes "type") leaf.path.kind refl)
    (members_then _ (level_name i (codes "name") leaf.path.name) (level_name i (codes "language") leaf.path.language)
    (are_levels _ i (codes "name") leaf.path.name refl) (are_levels _ i (codes "language") leaf.path.language refl))

are_leaf_numbers : (limit : ℕ) (leaf : Leaf) → AreMembers limit (leaf_numbers leaf)
unfolding leaf_numbers
are_leaf_numbers limit leaf = (number_member _ _ _ refl, (number_member _ _ _ refl, tt))

leaf_value : (limit : ℕ) (i : LaidOut) (leaf : Leaf) → IsValue (suc limit) (leaf_row i leaf)
leaf_value limit i leaf =
    members_value limit _ (number_member _ _ _ refl, members_then _ (leaf_numbers leaf) (leaf_names i leaf) (are_leaf_numbers _ leaf) (are_leaf_names _ i leaf))

are_leaves : (limit : ℕ) (i : LaidOut) (leaves : List Leaf) (d : Option Directory) → AreMembers (suc (suc limit)) (leaves_members i leaves d)
unfolding leaves_members
are_leaves limit i leaves None = tt
are_leaves limit i leaves (Some d) = (is_member _ _ _ refl (items_value (suc limit) _ (row_values (suc limit) (leaf_row i) leaves (leaf_value limit i))), tt)

-- ---- version information
are_four_numbers : (limit high low : ℕ) → AreValues limit (four_numbers high low)
are_four_numbers limit high low = (is_number _ _, (is_number _ _, (is_number _ _, (is_number _ _, tt))))

are_version_numbers : (limit : ℕ) (f : FixedInfo) → AreMembers (suc limit) (version_numbers f)
unfolding version_numbers
are_version_numbers limit f = (
  is_member _ _ _ refl (items_value limit _ (are_four_numbers limit f.file_version_high f.file_version_low)),
  (is_member _ _ _ refl (items_value limit _ (are_four_numbers limit f.product_version_high f.product_version_low)), tt),
)

are_kind_numbers : (limit : ℕ) (f : FixedInfo) → AreMembers limit (kind_numbers f)
unfolding kind_numbers
are_kind_numbers limit f =
    (number_member _ _ _ refl, (number_member _ _ _ refl, (number_member _ _ _ refl, (number_member _ _ _ refl, (number_member _ _ _ refl, tt)))))

are_fixed : (limit : ℕ) (f : Option FixedInfo) → AreMembers (suc limit) (fixed_members f)
are_fixed limit None = tt
are_fixed limit (Some f) = members_then _ (version_numbers f) (kind_numbers f) (are_version_numbers limit f) (are_kind_numbers _ f)

units_is_member : (limit : ℕ) (key units : List ℕ) → IsAsciiText key → IsMember limit (units_member key units)
units_is_member limit key units key_ascii = string_member limit key (utf8_text units) key_ascii (text_is_utf8 units)

string_value : (limit : ℕ) (s : Entry) → IsValue (suc limit) (string_row s)
string_value limit s = members_value limit _ (units_is_member limit (codes "key") s.key refl, (units_is_member limit (codes "value") s.value refl, tt))

table_value : (limit : ℕ) (t : Table) → IsValue (suc (suc (suc limit))) (table_row t)
table_value limit t =
    members_value (suc (suc limit)) _ (
      units_is_member _ (codes "key") t.key refl,
      (is_member _ _ _ refl (items_value (suc limit) _ (row_values (suc limit) string_row t.strings (string_value limit))), tt),
    )

are_tables : (limit : ℕ) (tables : List Table) → AreMembers (suc (suc (suc (suc limit)))) (tables_member tables)
unfolding tables_member
are_tables limit tables = (is_member _ _ _ refl (items_value _ _ (row_values (suc (suc (suc limit))) table_row tables (table_value limit))), tt)

are_data : (limit : ℕ) (bytes : Option (List ℕ)) → AreMembers (suc (suc (suc (suc limit)))) (version_in bytes)
are_data limit None = tt
are_data limit (Some bytes) =
    members_then _ (fixed_members (fixed_info_of bytes)) (tables_member (tables_of bytes)) (are_fixed _ (fixed_info_of bytes)) (are_tables limit (tables_of bytes))

are_versions : (limit : ℕ) (i : LaidOut) (leaf : Option Leaf) → AreMembers (suc (suc (suc (suc (suc limit))))) (version_at i leaf)
unfolding version_at
are_versions limit i None = tt
are_versions limit i (Some leaf) = (is_member _ _ _ refl (members_value (suc (suc (suc (suc limit)))) _ (number_member _ _ _ refl, are_data limit (data_of i leaf))), tt)

-- ---- the manifest, and all of them
are_manifests : (limit : ℕ) (text : Option (List ℕ)) → AreMembers limit (manifest_if text)
unfolding manifest_if
are_manifests limit None = tt
are_manifests limit (Some text) = (name_member _ _ _ refl refl, tt)

pub are_resource_members : (limit : ℕ) (i : LaidOut) → AreMembers (suc (suc (suc (suc (suc limit))))) (resource_members i)
are_resource_members limit i =
    members_then _ (leaves_members i (leaves_of i) (i.directory 2)) _ (are_leaves _ i (leaves_of i) (i.directory 2))
    (members_then _ (version_members i) (manifest_members i) (are_versions limit i (version_of i)) (are_manifests _ (option_and_then (data_of i) (manifest_of i))))
