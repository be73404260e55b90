-- What the fields of a descriptor lead to ("PE Format", The Delay-Load Directory Table): its module's name, and its tables.
use Rattle.std.specs.Prelude.{ℕ, ◌%◌, ◌==◌, Bool, List, Option, None, Some, if◌then◌else◌}
use Rattle.std.specs.Option.{option_and_then, unwrap_or}
use Rattle.pe_layout.specs.Image.{LaidOut}
use Rattle.pe_records.specs.Address.{rva_of}
use Rattle.pe_delay.specs.declared.descriptor.DelayDescriptor.{DelayDescriptor}
use Rattle.pe_delay.specs.declared.tables.Tables.{Tables}

-- its fields are RVAs; those of the first linkers are addresses of an image that is at its ImageBase
abbrev pub has_rvas : DelayDescriptor → Bool
has_rvas d = d.attributes % 2 == 1

-- the RVA that a field leads to; 0 leads nowhere, nor does an address outside the image
abbrev pub field_rva : LaidOut → DelayDescriptor → ℕ → Option ℕ
field_rva i d field = if field == 0 then None else (if has_rvas d then Some field else rva_of i field)

-- the module that its imports are from
abbrev pub module_of : LaidOut → DelayDescriptor → Option (List ℕ)
module_of i d = option_and_then i.text (field_rva i d d.name)

-- its tables; one that leads nowhere is at the end of the image
abbrev pub tables_of : LaidOut → DelayDescriptor → Tables
tables_of i d = record {
  names = unwrap_or (field_rva i d d.import_name_table) i.size;
  addresses = unwrap_or (field_rva i d d.import_address_table) i.size;
  has_rvas = has_rvas d;
}
