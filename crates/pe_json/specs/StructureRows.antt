-- The load configuration and the CLR header of an image in a line of JSON.
use Rattle.std.specs.Prelude.{ℕ, List, [], ◌∷◌, codes, decimal, length, flat_map, Option, None, Some, slice_get}
use Rattle.std.specs.List.{range_with_len}
use Rattle.pe_head.specs.Names.{Names, name_in}
use Rattle.pe_head.specs.declared.directory.Directory.{Directory}
use Rattle.pe_layout.specs.Image.{LaidOut}
use Rattle.pe_records.specs.ClrHeader.{clr_bytes, clr_fields}
use Rattle.pe_records.specs.LoadConfiguration.{load_bytes}
use Rattle.pe_records.specs.LoadFields.{load_fields}
use Rattle.pe_records.specs.Structure.{field_in}
use Rattle.pe_records.specs.declared.structure.Field.{Field}
use Rattle.pe_records.specs.declared.structure.Width.{Width}
use Rattle.pe_records.specs.declared.structure.Width.TheVariants.{Two, Four, Address}
use Rattle.pe_json.specs.JsonText.{member, object, number, wide_string}
use Rattle.pe_json.specs.StructureKeys.{load_keys, clr_keys}
use Rattle.pe_json.specs.declared.structure.StructureKind.{StructureKind}
use Rattle.pe_json.specs.declared.structure.StructureKind.TheVariants.{LoadConfiguration, ClrHeader}

-- ---- the two structures
-- the key of a structure
abbrev pub structure_key : StructureKind → List ℕ
structure_key LoadConfiguration = codes "load_configuration"
structure_key ClrHeader = codes "clr"

-- the index of its directory
abbrev pub index_of : StructureKind → ℕ
index_of LoadConfiguration = 10
index_of ClrHeader = 14

-- its bytes
abbrev pub held_of : StructureKind → LaidOut → Option (List ℕ)
held_of LoadConfiguration i = load_bytes i
held_of ClrHeader i = clr_bytes i

-- its fields, in order, and their keys
abbrev pub fields_of : StructureKind → List Field
fields_of LoadConfiguration = load_fields
fields_of ClrHeader = clr_fields

abbrev pub keys_of : StructureKind → Names
keys_of LoadConfiguration = load_keys
keys_of ClrHeader = clr_keys

-- ---- fields
-- the number in a field: an address has 64 bits in PE32+, so it is a string in PE32 too
abbrev pub field_value : Width → ℕ → List ℕ
field_value Two n = decimal n
field_value Four n = decimal n
field_value Address n = wide_string n

unfoldable pub value_members : List ℕ → Width → Option ℕ → List (List ℕ)
value_members key width None = []
value_members key width (Some n) = member key (field_value width n) ∷ []

-- a field under its key, if it is whole in these bytes, where an address has `address` bytes
abbrev pub field_members : ℕ → List ℕ → List ℕ → Field → List (List ℕ)
field_members address bytes key f = value_members key f.2 (field_in address bytes f)

abbrev pub keyed_members : ℕ → List ℕ → Option (List ℕ) → Option Field → List (List ℕ)
keyed_members address bytes None f = []
keyed_members address bytes (Some key) None = []
keyed_members address bytes (Some key) (Some f) = field_members address bytes key f

-- field k
abbrev pub member_at : StructureKind → ℕ → List ℕ → ℕ → List (List ℕ)
member_at kind address bytes k = keyed_members address bytes (name_in (keys_of kind) k) (slice_get (fields_of kind) k)

-- each field that is whole in these bytes, in their order
abbrev pub fields_in : StructureKind → ℕ → List ℕ → List (List ℕ)
fields_in kind address bytes = flat_map (member_at kind address bytes) (range_with_len 0 (length (fields_of kind)))

abbrev pub fields_if : StructureKind → ℕ → Option (List ℕ) → List (List ℕ)
fields_if kind address None = []
fields_if kind address (Some bytes) = fields_in kind address bytes

-- ---- the member
-- that of a structure, if there is a directory: where it is, and its fields
unfoldable pub structure_members_at : StructureKind → LaidOut → Option Directory → List (List ℕ)
structure_members_at kind i None = []
structure_members_at kind i (Some d) =
    member (structure_key kind) (object (number (codes "rva") d.rva ∷ fields_if kind i.slot_width (held_of kind i))) ∷ []

abbrev pub structure_members : StructureKind → LaidOut → List (List ℕ)
structure_members kind i = structure_members_at kind i (i.directory (index_of kind))
