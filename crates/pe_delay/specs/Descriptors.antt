-- The delay-load directory table ("PE Format", The Delay-Load Directory Table): descriptors of 32 bytes, up to one that ends it.
use Rattle.std.specs.Prelude.{ℕ, ◌+◌, ◌-◌, ◌*◌, ◌/◌, ◌==◌, ◌||◌, Bool, not, List, [], map, take_while, length, Option, None, Some}
use Rattle.std.specs.List.{range_with_len}
use Rattle.pe_head.specs.declared.directory.Directory.{Directory}
use Rattle.pe_layout.specs.Image.{LaidOut}
use Rattle.pe_records.specs.Records.{number, raw_bytes}
use Rattle.pe_delay.specs.declared.descriptor.DelayDescriptor.{DelayDescriptor}

-- descriptor k of a table with these bytes, which begins at an RVA
abbrev pub descriptor_at : ℕ → List ℕ → ℕ → DelayDescriptor
descriptor_at start bytes k = record {
  rva = start + 32 * k;
  attributes = number 4 bytes (32 * k);
  name = number 4 bytes (32 * k + 4);
  module_handle = number 4 bytes (32 * k + 8);
  import_address_table = number 4 bytes (32 * k + 12);
  import_name_table = number 4 bytes (32 * k + 16);
  bound_import_table = number 4 bytes (32 * k + 20);
  unload_import_table = number 4 bytes (32 * k + 24);
  time_stamp = number 4 bytes (32 * k + 28);
}

-- it ends the table: it has no name or no address table
abbrev pub is_null : DelayDescriptor → Bool
is_null d = (d.name == 0) || (d.import_address_table == 0)

-- from descriptor k on, those before the one that ends the table, of all that are whole in these bytes
abbrev pub descriptors_from : ℕ → List ℕ → ℕ → List DelayDescriptor
descriptors_from start bytes k = take_while (λ d. not (is_null d)) (map (descriptor_at start bytes) (range_with_len k (length bytes / 32 - k)))

-- of a directory: in the bytes that the file holds in one run
abbrev pub descriptors_at : LaidOut → Option Directory → List DelayDescriptor
descriptors_at i None = []
descriptors_at i (Some d) = descriptors_from d.rva (raw_bytes i d.rva) 0

-- those of an image
abbrev pub delay_descriptors : LaidOut → List DelayDescriptor
delay_descriptors i = descriptors_at i (i.directory 13)
