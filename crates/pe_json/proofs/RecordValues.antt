-- What a line says of tables that the profile leaves out is JSON.
use Rattle.std.proofs.Common.{◌≡◌, ◌+◌, ℕ, suc, Bool, true, false, List, [], ◌∷◌, codes, refl, flat_map, map, Option, None, Some, option_map, length}
use Rattle.std.specs.Prelude.{⊤, ◌==◌, cond, find, option_and_then, slice_get, if◌then◌else◌}
use Rattle.std.specs.List.{range_with_len}
use Rattle.std.proofs.lemmas.Bool.{and_parts}
use Rattle.pe_delay.specs.Imports.{delay_imports_of}
use Rattle.pe_head.specs.Names.{Names, name_in}
use Rattle.pe_head.specs.declared.directory.Directory.{Directory}
use Rattle.pe_head.specs.declared.headers.Headers.{Headers}
use Rattle.pe_layout.specs.Image.{LaidOut}
use Rattle.pe_records.specs.Callbacks.{CallbackTable, addresses, callbacks_of}
use Rattle.pe_records.specs.CodeView.{CodeView, SevenZero, TwoZero, Other, code_view_of}
use Rattle.pe_records.specs.ArmFunctions.{arm_function_at}
use Rattle.pe_records.specs.Exceptions.{is_amd64, is_arm}
use Rattle.pe_records.specs.Functions.{function_at}
use Rattle.pe_records.specs.Records.{records_in, table_bytes}
use Rattle.pe_records.specs.declared.arm_function.ArmFunction.{ArmFunction}
use Rattle.pe_records.specs.declared.function.Function.{Function}
use Rattle.pe_records.specs.Structure.{field_in}
use Rattle.pe_records.specs.TableNames.{debug_type_names}
use Rattle.pe_records.specs.TlsFields.{tls_at}
use Rattle.pe_records.specs.declared.bound_imports.BoundImport.{BoundImport}
use Rattle.pe_records.specs.declared.debug.DebugEntry.{DebugEntry}
use Rattle.pe_records.specs.declared.structure.Field.{Field}
use Rattle.pe_records.specs.declared.structure.Width.{Width}
use Rattle.pe_records.specs.declared.structure.Width.TheVariants.{Two, Four, Address}
use Rattle.pe_records.specs.declared.tls_directory.TlsDirectory.{TlsDirectory}
use Rattle.pe_view.specs.declared.fault.Fault.{Fault}
use Rattle.pe_json.specs.BoundRows.{module_at, module_if, bound_numbers, bound_row, bound_records, bound_members_at, bound_members}
use Rattle.pe_json.specs.DebugRows.{type_numbers, data_numbers, debug_row, debug_entries, debug_members_at, debug_members}
use Rattle.pe_json.specs.DelayRows.{delay_members_at, delay_members}
use Rattle.pe_json.specs.FindingRows.{trust_findings, image_findings, finding_row, findings_in, findings_members}
use Rattle.pe_json.specs.FunctionRows.{function_count_in, count_member, function_row, arm_function_row, rows_in, list_member, listed_if, function_members_at, function_members}
use Rattle.pe_tables.specs.Imports.{Import, imports_of}
use Rattle.pe_imphash.specs.ImportText.{import_hash_of}
use Rattle.pe_json.specs.ImageRecords.{record_members, members_beyond, hash_if, own_members}
use Rattle.pe_json.specs.JsonText.{wide_if, wide_string}
use Rattle.pe_json.specs.PdbRows.{is_code_view, data_at, path_if, code_view_members, pdb_in, pdb_members}
use Rattle.pe_json.specs.ResourceRows.{resource_members}
use Rattle.pe_json.specs.StructureKeys.{load_keys, clr_keys}
use Rattle.pe_json.specs.StructureRows.{structure_key, held_of, fields_of, keys_of, field_value, value_members, keyed_members, member_at, fields_if, structure_members_at, structure_members}
use Rattle.pe_json.specs.SymbolRows.{indexed_row, symbols_unless, symbol_members}
use Rattle.pe_json.specs.TableRows.{import_row}
use Rattle.pe_json.specs.TrustRows.{imphash_if, trust_members}
use Rattle.pe_json.specs.declared.beyond.Beyond.{Beyond}
use Rattle.pe_json.specs.TlsRows.{tls_addresses, tls_fields, callback_members, tls_members_at, tls_members}
use Rattle.pe_json.specs.declared.structure.StructureKind.{StructureKind}
use Rattle.pe_json.specs.declared.structure.StructureKind.TheVariants.{LoadConfiguration, ClrHeader}
use Rattle.pe_json.proofs.Printed.{IsValue, AreValues, AreMembers, is_number, items_value, members_value}
use Rattle.pe_json.proofs.JsonMembers.{IsAsciiText, is_member, number_member, number_if_members, name_member, wide_member, wide_value, hex_value, members_then, flat_members, text_members, row_values}
use Rattle.coff_read.specs.Forms.{Plain}
use Rattle.coff_read.specs.ImageSymbols.{image_symbols}
use Rattle.coff_read.specs.Records.{Symbol}
use Rattle.pe_json.proofs.FaultValues.{fault_value}
use Rattle.pe_json.proofs.ObjectValues.{symbol_value}
use Rattle.pe_json.proofs.ImageValues.{are_ascii_names, import_value, named}
use Rattle.pe_json.proofs.ResourceValues.{are_resource_members}
use Rattle.pe_json.proofs.TrustValues.{are_imphash_if, are_trust_members}

-- ---- the debug directory
types_ascii : are_ascii_names debug_type_names ≡ true
unfolding debug_type_names
types_ascii = refl

are_type_numbers : (limit : ℕ) (e : DebugEntry) → AreMembers limit (type_numbers e)
unfolding type_numbers
are_type_numbers limit e = search number_member

are_data_numbers : (limit : ℕ) (e : DebugEntry) → AreMembers limit (data_numbers e)
unfolding data_numbers
are_data_numbers limit e = search number_member

entry_value : (limit : ℕ) (e : DebugEntry) → IsValue (suc limit) (debug_row e)
entry_value limit e =
    members_value limit _ (
      number_member _ _ _ refl,
      members_then _ (type_numbers e) _ (are_type_numbers _ e)
          (members_then _ _ (data_numbers e) (text_members limit _ (name_in debug_type_names e.kind) refl (named debug_type_names e.kind types_ascii)) (are_data_numbers _ e)),
    )

are_debug_members : (limit : ℕ) (i : LaidOut) (d : Option Directory) → AreMembers (suc (suc limit)) (debug_members_at i d)
unfolding debug_members_at
are_debug_members limit i None = tt
are_debug_members limit i (Some d) = (is_member _ _ _ refl (items_value (suc limit) _ (row_values (suc limit) debug_row (debug_entries i) (entry_value limit))), tt)

-- ---- the PDB file
are_paths : (limit : ℕ) (path : Option (List ℕ)) → AreMembers limit (path_if path)
are_paths limit None = tt
are_paths limit (Some path) = (name_member _ _ _ refl refl, tt)

are_code_view : (limit : ℕ) (view : CodeView) → AreMembers (suc limit) (code_view_members view)
unfolding code_view_members
are_code_view limit (SevenZero r) =
    (is_member _ _ _ refl (members_value limit _ (is_member _ _ _ refl (hex_value _ r.guid), (number_member _ _ _ refl, are_paths limit r.path))), tt)
are_code_view limit (TwoZero r) =
    (is_member _ _ _ refl (members_value limit _ (number_member _ _ _ refl, (number_member _ _ _ refl, are_paths limit r.path))), tt)
are_code_view limit Other = tt

are_pdb_members : (limit : ℕ) (bytes : Option (List ℕ)) → AreMembers (suc limit) (pdb_in bytes)
are_pdb_members limit None = tt
are_pdb_members limit (Some bytes) = are_code_view limit (code_view_of bytes)

-- ---- functions
are_counts : (limit : ℕ) (count : Option ℕ) → AreMembers limit (count_member count)
are_counts limit None = tt
are_counts limit (Some count) = (number_member _ _ _ refl, tt)

function_value : (limit : ℕ) (f : Function) → IsValue (suc limit) (function_row f)
function_value limit f = members_value limit _ (number_member _ _ _ refl, (number_member _ _ _ refl, (number_member _ _ _ refl, tt)))

arm_function_value : (limit : ℕ) (f : ArmFunction) → IsValue (suc limit) (arm_function_row f)
arm_function_value limit f = members_value limit _ (number_member _ _ _ refl, (number_member _ _ _ refl, tt))

-- rows are values, if there are any
abbrev AreRows : ℕ → Option (List (List ℕ)) → Type 0
AreRows limit None = ⊤
AreRows limit (Some rows) = AreValues limit rows

are_rows_in : (limit machine : ℕ) (bytes : List ℕ) → AreRows (suc limit) (rows_in machine bytes)
are_rows_in limit machine bytes = by (is_amd64 machine) (is_arm machine)
  where
    by : (amd64 arm : Bool) → AreRows (suc limit)
        (if amd64 then Some (map function_row (records_in function_at 12 bytes)) else (if arm then Some (map arm_function_row (records_in arm_function_at 8 bytes)) else None))
    by true arm = row_values (suc limit) function_row (records_in function_at 12 bytes) (function_value limit)
    by false true = row_values (suc limit) arm_function_row (records_in arm_function_at 8 bytes) (arm_function_value limit)
    by false false = tt

are_listed : (limit : ℕ) (listed : Bool) (rows : Option (List (List ℕ))) → AreRows limit rows → AreMembers (suc limit) (listed_if listed rows)
unfolding list_member
are_listed limit false rows h = tt
are_listed limit true None h = tt
are_listed limit true (Some rows) h = (is_member _ _ _ refl (items_value limit rows h), tt)

are_function_members : (limit : ℕ) (listed : Bool) (machine : ℕ) (i : LaidOut) (d : Option Directory) → AreMembers (suc (suc limit)) (function_members_at listed machine i d)
unfolding function_members_at
are_function_members limit listed machine i None = tt
are_function_members limit listed machine i (Some d) =
    let bytes = table_bytes i (i.directory 3) in
    members_then _ (count_member (function_count_in machine bytes)) (listed_if listed (rows_in machine bytes)) (are_counts _ (function_count_in machine bytes))
    (are_listed _ listed (rows_in machine bytes) (are_rows_in limit machine bytes))

-- ---- the TLS directory
are_wide : (limit : ℕ) (key : List ℕ) (n : Option ℕ) → IsAsciiText key → AreMembers limit (wide_if key n)
unfolding wide_if
are_wide limit key None key_ascii = tt
are_wide limit key (Some n) key_ascii = (wide_member _ _ _ key_ascii, tt)

are_addresses : (limit : ℕ) (t : TlsDirectory) → AreMembers limit (tls_addresses t)
unfolding tls_addresses
are_addresses limit t =
    members_then _ _ _ (are_wide _ (codes "start_address_of_raw_data") t.start_address_of_raw_data refl)
    (members_then _ _ _ (are_wide _ (codes "end_address_of_raw_data") t.end_address_of_raw_data refl)
    (members_then _ _ _ (are_wide _ (codes "address_of_index") t.address_of_index refl) (are_wide _ (codes "address_of_callbacks") t.address_of_callbacks refl)))

are_tls_fields : (limit : ℕ) (t : TlsDirectory) → AreMembers limit (tls_fields t)
are_tls_fields limit t =
    members_then _ (tls_addresses t) _ (are_addresses _ t)
    (members_then _ _ _ (number_if_members _ (codes "size_of_zero_fill") t.size_of_zero_fill refl) (number_if_members _ (codes "characteristics") t.characteristics refl))

are_callbacks : (limit : ℕ) (t : Option CallbackTable) → AreMembers (suc limit) (callback_members t)
unfolding callback_members
are_callbacks limit None = tt
are_callbacks limit (Some t) = (is_member _ _ _ refl (items_value limit _ (row_values limit wide_string (addresses t) (wide_value limit))), tt)

are_tls_members : (limit : ℕ) (i : LaidOut) (d : Option Directory) → AreMembers (suc (suc limit)) (tls_members_at i d)
unfolding tls_members_at
are_tls_members limit i None = tt
are_tls_members limit i (Some d) = (
  is_member _ _ _ refl (members_value (suc limit) _ (
    number_member _ _ _ refl,
    members_then _ (tls_fields (tls_at i d.rva)) _ (are_tls_fields _ (tls_at i d.rva)) (are_callbacks limit (callbacks_of i)),
  )),
  tt,
)

-- ---- structures
-- a key is ASCII, if there is one
abbrev IsKey : Option (List ℕ) → Type 0
IsKey None = ⊤
IsKey (Some key) = IsAsciiText key

is_key : (names : Names) (value : ℕ) → are_ascii_names names ≡ true → IsKey (name_in names value)
is_key [] value h = tt
is_key (row ∷ rows) value h = by (row.0 == value) (is_key rows value (and_parts _ _ h).1)
  where
    by : (b : Bool) → IsKey (name_in rows value) → IsKey (option_map (λ (row : ℕ × List ℕ). row.1) (cond b (Some row) (find (λ (row : ℕ × List ℕ). row.0 == value) rows)))
    by true others = (and_parts _ _ h).0
    by false others = others

keys_ascii : (kind : StructureKind) → are_ascii_names (keys_of kind) ≡ true
unfolding load_keys clr_keys
keys_ascii LoadConfiguration = refl
keys_ascii ClrHeader = refl

structure_ascii : (kind : StructureKind) → IsAsciiText (structure_key kind)
structure_ascii LoadConfiguration = refl
structure_ascii ClrHeader = refl

field_is_value : (limit : ℕ) (width : Width) (n : ℕ) → IsValue limit (field_value width n)
field_is_value limit Two n = is_number limit n
field_is_value limit Four n = is_number limit n
field_is_value limit Address n = wide_value limit n

are_value_members : (limit : ℕ) (key : List ℕ) (width : Width) (n : Option ℕ) → IsAsciiText key → AreMembers limit (value_members key width n)
unfolding value_members
are_value_members limit key width None key_ascii = tt
are_value_members limit key width (Some n) key_ascii = (is_member _ _ _ key_ascii (field_is_value limit width n), tt)

are_keyed : (limit address : ℕ) (bytes : List ℕ) (key : Option (List ℕ)) (f : Option Field) → IsKey key → AreMembers limit (keyed_members address bytes key f)
are_keyed limit address bytes None f is = tt
are_keyed limit address bytes (Some key) None is = tt
are_keyed limit address bytes (Some key) (Some f) is = are_value_members limit key f.2 (field_in address bytes f) is

are_fields : (limit : ℕ) (kind : StructureKind) (address : ℕ) (bytes : Option (List ℕ)) → AreMembers limit (fields_if kind address bytes)
are_fields limit kind address None = tt
are_fields limit kind address (Some bytes) =
    flat_members limit (member_at kind address bytes) (range_with_len 0 (length (fields_of kind)))
    (λ k. are_keyed limit address bytes (name_in (keys_of kind) k) (slice_get (fields_of kind) k) (is_key (keys_of kind) k (keys_ascii kind)))

are_structure_members : (limit : ℕ) (kind : StructureKind) (i : LaidOut) (d : Option Directory) → AreMembers (suc limit) (structure_members_at kind i d)
unfolding structure_members_at
are_structure_members limit kind i None = tt
are_structure_members limit kind i (Some d) =
    (is_member _ (structure_key kind) _ (structure_ascii kind) (members_value limit _ (number_member _ _ _ refl, are_fields limit kind i.slot_width (held_of kind i))), tt)

-- ---- bound imports
are_bound_numbers : (limit : ℕ) (b : BoundImport) → AreMembers limit (bound_numbers b)
unfolding bound_numbers
are_bound_numbers limit b = (number_member _ _ _ refl, (number_member _ _ _ refl, tt))

are_modules : (limit : ℕ) (text : Option (List ℕ)) → AreMembers limit (module_if text)
unfolding module_if
are_modules limit None = tt
are_modules limit (Some text) = (name_member _ _ _ refl refl, tt)

bound_value : (limit : ℕ) (i : LaidOut) (start : ℕ) (b : BoundImport) → IsValue (suc limit) (bound_row i start b)
bound_value limit i start b =
    members_value limit _ (
      number_member _ _ _ refl,
      members_then _ (bound_numbers b) _ (are_bound_numbers _ b) (are_modules _ (module_at i (start + b.offset_module_name))),
    )

are_bound_members : (limit : ℕ) (i : LaidOut) (d : Option Directory) → AreMembers (suc (suc limit)) (bound_members_at i d)
unfolding bound_members_at
are_bound_members limit i None = tt
are_bound_members limit i (Some d) = (is_member _ _ _ refl (items_value (suc limit) _ (row_values (suc limit) (bound_row i d.rva) (bound_records i) (bound_value limit i d.rva))), tt)

-- ---- delay-loaded imports
are_delay_members : (limit : ℕ) (d : Option Directory) (imports : List Import) → AreMembers (suc (suc limit)) (delay_members_at d imports)
unfolding delay_members_at
are_delay_members limit None imports = tt
are_delay_members limit (Some d) imports = (is_member _ _ _ refl (items_value (suc limit) _ (row_values (suc limit) import_row imports (import_value limit))), tt)

-- ---- symbols
are_symbols : (limit : ℕ) (left_out : Bool) (symbols : List (ℕ × Symbol)) → AreMembers (suc (suc (suc (suc limit)))) (symbols_unless left_out symbols)
unfolding symbols_unless
are_symbols limit true symbols = tt
are_symbols limit false symbols =
    (is_member _ _ _ refl (items_value (suc (suc (suc limit))) _ (row_values (suc (suc (suc limit))) indexed_row symbols (λ item. symbol_value Plain limit item.0 item.1))), tt)

-- ---- findings
are_findings_in : (limit : ℕ) (fs : List Fault) → AreMembers (suc (suc (suc limit))) (findings_in fs)
unfolding findings_in
are_findings_in limit [] = tt
are_findings_in limit (f ∷ fs) = (is_member _ _ _ refl (items_value _ _ (row_values _ finding_row (f ∷ fs) (λ f. fault_value limit f None))), tt)

-- ---- all of them
are_record_members : (limit : ℕ) (functions : Bool) (machine : ℕ) (i : LaidOut) → AreMembers (suc (suc limit)) (record_members functions machine i)
are_record_members limit functions machine i =
    members_then _ (debug_members i) _ (are_debug_members _ i (i.directory 6))
    (members_then _ (pdb_members i) _ (are_pdb_members _ (option_and_then (data_at i) (find is_code_view (debug_entries i))))
    (members_then _ (function_members functions machine i) _ (are_function_members _ functions machine i (i.directory 3))
    (members_then _ (tls_members i) _ (are_tls_members _ i (i.directory 9))
    (members_then _ (structure_members LoadConfiguration i) _ (are_structure_members _ LoadConfiguration i (i.directory 10))
    (members_then _ (bound_members i) (structure_members ClrHeader i) (are_bound_members _ i (i.directory 11)) (are_structure_members _ ClrHeader i (i.directory 14)))))))

pub are_members_beyond : (limit : ℕ) (beyond : Option Beyond) (file : List ℕ) (h : Headers) (i : LaidOut) → AreMembers (suc (suc (suc (suc (suc limit))))) (members_beyond beyond file h i)
are_members_beyond limit None file h i = tt
are_members_beyond limit (Some b) file h i =
    members_then _ (record_members b.functions h.machine i) _ (are_record_members _ b.functions h.machine i)
    (members_then _ (delay_members i) _ (are_delay_members _ (i.directory 13) (delay_imports_of i))
    (members_then _ (resource_members i) _ (are_resource_members _ i)
    (members_then _ (symbol_members b.symbols file h) _ (are_symbols (suc limit) _ (image_symbols file h))
    (members_then _ (trust_members b.digests file h) _ (are_trust_members (suc limit) b.digests file h)
    (members_then _ (imphash_if (import_hash_of (imports_of i))) (findings_members file h i) (are_imphash_if _ (import_hash_of (imports_of i))) (are_findings_in _ (image_findings file h i)))))))

are_hash_if : (limit : ℕ) (imports : Option (List Import)) → AreMembers (suc limit) (hash_if imports)
unfolding hash_if
are_hash_if limit None = tt
are_hash_if limit (Some imports) = are_imphash_if _ (import_hash_of imports)

pub are_own_members : (limit : ℕ) (b : Beyond) (file : List ℕ) (h : Headers) (imports : Option (List Import)) → AreMembers (suc (suc (suc (suc limit)))) (own_members (Some b) file h imports)
are_own_members limit b file h imports =
    members_then _ (trust_members b.digests file h) _ (are_trust_members limit b.digests file h)
    (members_then _ (hash_if imports) (findings_in (trust_findings file h)) (are_hash_if _ imports) (are_findings_in _ (trust_findings file h)))
