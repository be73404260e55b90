-- Whether what the tables of an image read is at hand: tests of its headers and of the laid-out image.
use Rattle.std.specs.Prelude.{ℕ, ◌+◌, ◌-◌, ◌*◌, ◌%◌, ◌^◌, ◌&&◌, ◌||◌, not, Bool, true, nat_le, List, length, Option, None, Some, is_none, if◌then◌else◌}
use Rattle.std.specs.List.{list_all, range_with_len}
use Rattle.pe_head.specs.declared.directory.Directory.{Directory}
use Rattle.pe_head.specs.declared.headers.Headers.{Headers}
use Rattle.pe_view.specs.Faults.{first_standing}
use Rattle.pe_layout.specs.Image.{LaidOut, number_at, is_inside, image_from}
use Rattle.pe_layout.specs.Layout.{can_lay_out}
use Rattle.pe_tables.specs.Exports.{table_at}
use Rattle.pe_tables.specs.ExportFaults.{is_outside}
use Rattle.pe_tables.specs.Imports.{Lookup, lookups_from, lookup_table, is_ordinal, is_null, descriptor_at, descriptors_of}
use Rattle.pe_image.specs.ImageTests.{table_tests}
use Rattle.pe_parts.specs.Packed.{at_hand, piece_end}

-- where the piece that contains an RVA ends, if its bytes are there; 0 if they are not, or the RVA is in a gap
abbrev pub held_end : Headers → ℕ → ℕ
held_end p r = if at_hand p r then piece_end p r else 0

-- `len` bytes at an RVA are there, in one piece
abbrev pub has_bytes : Headers → ℕ → ℕ → Bool
has_bytes p r len = nat_le len (held_end p r - r)

-- so is the string at an RVA, which its piece ends at the latest
abbrev pub has_text : Headers → ℕ → Bool
has_text p r = has_bytes p r 1

-- the strings of names, whose RVAs are in an array in the image
unfoldable pub has_names : Headers → LaidOut → ℕ → ℕ → Bool
has_names p i names count =
    not (is_outside i names 4 count) && list_all (λ k. has_text p (number_at 4 i (names + 4 * k))) (range_with_len 0 count)

-- `len` bytes at an RVA are in the image, and there
abbrev pub has_record : Headers → LaidOut → ℕ → ℕ → Bool
has_record p i rva len = is_inside i rva len && has_bytes p rva len

-- what the export table of a directory reads: itself, its three arrays, its forwarders' strings, and those of its names
abbrev pub has_table : Headers → LaidOut → Directory → Bool
has_table p i d = let t = table_at i d.rva in
    has_record p i d.rva 40
    && (has_bytes p t.addresses (4 * t.entry_count)
    && (has_bytes p t.names (4 * t.name_count)
    && (has_bytes p t.ordinals (2 * t.name_count)
    && (has_bytes p d.rva d.size
    && has_names p i t.names t.name_count))))

abbrev pub has_exports : Headers → LaidOut → Option Directory → Bool
has_exports p i None = true
has_exports p i (Some d) = has_table p i d

-- the name that a lookup entry with this value has, if it has one
abbrev pub has_name : Headers → LaidOut → ℕ → Bool
has_name p i value = is_ordinal i value || has_text p (value % 2 ^ 31 + 2)

-- `len` bytes at an RVA are in the image, and in a piece that ends at `end`
abbrev pub is_before : LaidOut → ℕ → ℕ → ℕ → Bool
is_before i end rva len = is_inside i rva len && nat_le (rva + len) end

-- a lookup entry, in a piece that ends at `end`, and its name
abbrev pub has_lookup : Headers → LaidOut → ℕ → Lookup → Bool
has_lookup p i end l = is_before i end l.rva i.slot_width && has_name p i l.value

-- the entries of the lookup table at an RVA, all in one piece
unfoldable pub has_lookups : Headers → LaidOut → ℕ → Bool
has_lookups p i first = list_all (has_lookup p i (held_end p first)) (lookups_from i.size i first 0)

-- the import descriptor at an RVA, in a piece that ends at `end`, and unless it is null its module's name and its lookup table
abbrev pub has_descriptor : Headers → LaidOut → ℕ → ℕ → Bool
has_descriptor p i end rva = let d = descriptor_at i rva in
    is_before i end rva 20 && (is_null d || (has_text p d.name && has_lookups p i (lookup_table d)))

-- the descriptors of the import table at an RVA, all in one piece
unfoldable pub has_descriptors : Headers → LaidOut → ℕ → Bool
has_descriptors p i first = list_all (λ d. has_descriptor p i (held_end p first) d.rva) (descriptors_of i first)

abbrev pub has_imports : Headers → LaidOut → Option Directory → Bool
has_imports p i None = true
has_imports p i (Some d) = has_descriptors p i d.rva

-- the base relocation table of a directory
abbrev pub has_fixups : Headers → Option Directory → Bool
has_fixups p None = true
has_fixups p (Some d) = has_bytes p d.rva d.size

-- what all tables of an image read is there, by the packed bytes' headers
unfoldable pub tables_at_hand : Headers → LaidOut → Bool
tables_at_hand p i = has_exports p i (i.directory 0) && (has_imports p i (i.directory 1) && has_fixups p (i.directory 5))

-- packed bytes decide the tables of an image with a number: their headers lay it out over them, it has none of faults 16 to 38, and
-- what its tables read is there
abbrev pub can_decide_tables : ℕ → Headers → List ℕ → Bool
can_decide_tables number p packed = let i = image_from number p packed in
    can_lay_out number p (length packed) && (is_none (first_standing (table_tests i)) && tables_at_hand p i)
