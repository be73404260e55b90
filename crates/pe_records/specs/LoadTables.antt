-- The tables that the load configuration leads to.
use Rattle.std.specs.Prelude.{ℕ, ◌+◌, ◌/◌, ◌==◌, ◌||◌, Bool, true, false, nat_lt, List, Option, None, Some, if◌then◌else◌}
use Rattle.pe_layout.specs.Image.{LaidOut}
use Rattle.pe_records.specs.Address.{rva_of}
use Rattle.pe_records.specs.Structure.{field, field_in}
use Rattle.pe_records.specs.declared.load_tables.LoadTable.{LoadTable}
use Rattle.pe_records.specs.declared.load_tables.LoadTableKind.{LoadTableKind}
use Rattle.pe_records.specs.declared.load_tables.LoadTableKind.TheVariants.{Handlers, Functions, EhContinuations, IatEntries, LongJumpTargets}
use Rattle.pe_records.specs.declared.structure.Field.{Field}
use Rattle.pe_records.specs.declared.structure.Width.TheVariants.{Four, Address}

-- the fields of the address and of the number of entries
abbrev pub fields_of : LoadTableKind → Field × Field
fields_of Handlers = (field 64 96 Address, field 68 104 Address)
fields_of Functions = (field 80 128 Address, field 84 136 Address)
fields_of EhContinuations = (field 164 264 Address, field 168 272 Address)
fields_of IatEntries = (field 104 160 Address, field 108 168 Address)
fields_of LongJumpTargets = (field 112 176 Address, field 116 184 Address)

-- the size of an entry of a guard table: 4 bytes, and as many more as the top four bits of GuardFlags say
abbrev pub guard_stride : Option ℕ → ℕ
guard_stride None = 4
guard_stride (Some flags) = 4 + flags / 0x10000000

abbrev pub is_handlers : LoadTableKind → Bool
is_handlers Handlers = true
is_handlers Functions = false
is_handlers EhContinuations = false
is_handlers IatEntries = false
is_handlers LongJumpTargets = false

abbrev pub stride_in : ℕ → List ℕ → LoadTableKind → ℕ
stride_in address bytes kind = if is_handlers kind then 4 else guard_stride (field_in address bytes (field 88 144 Four))

abbrev pub table_of : ℕ → Option ℕ → Option ℕ → Option LoadTable
table_of stride None count = None
table_of stride (Some address) None = None
table_of stride (Some address) (Some count) = Some (record { address = address; count = count; stride = stride })

-- a table, if the load configuration has both fields
abbrev pub load_table_in : ℕ → List ℕ → LoadTableKind → Option LoadTable
load_table_in address bytes kind =
    table_of (stride_in address bytes kind) (field_in address bytes (fields_of kind).0) (field_in address bytes (fields_of kind).1)

abbrev pub holds_fewer : LaidOut → LoadTable → Option ℕ → Bool
holds_fewer i t None = true
holds_fewer i t (Some rva) = nat_lt (i.raw_left rva / t.stride) t.count

-- it has entries, and is not all in bytes that the file holds in one run
abbrev pub table_passes : LaidOut → Option LoadTable → Bool
table_passes i None = false
table_passes i (Some t) = if (t.address == 0) || (t.count == 0) then false else holds_fewer i t (rva_of i t.address)
