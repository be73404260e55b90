-- What the tables of an image read, of bytes some of which are not at hand.
use Rattle.std.specs.Prelude.{◌≡◌, ℕ, zero, suc, ◌+◌, ◌*◌, ◌%◌, ◌^◌, ◌<◌, ◌≤◌, true, false, List, Option, None, Some}
use Rattle.pe_head.specs.declared.directory.Directory.{Directory}
use Rattle.pe_layout.specs.Image.{LaidOut, number_at}
use Rattle.pe_tables.specs.Exports.{table_at, exports_of}
use Rattle.pe_tables.specs.Fixups.{fixups_of}
use Rattle.pe_image.specs.ImageTests.{table_tests}
use Rattle.pe_view.specs.Faults.{first_standing}
use Rattle.pe_tables.specs.Imports.{imports_of, is_ordinal, ends_table, lookup_at, is_null, descriptor_at, lookup_table, ends_list}
use Rattle.pe_tables.specs.Forwarder.{is_forwarder}

-- the image with other bytes, strings and runs
abbrev pub filled : LaidOut → (ℕ → ℕ) → (ℕ → Option (List ℕ)) → (ℕ → ℕ) → LaidOut
filled i b t w = record i { byte = b; text = t; raw_left = w }

-- these bytes are the image's from an RVA up to another
pub record AreAt (i : LaidOut) (b : ℕ → ℕ) (start end : ℕ) : Type 0 where
  pub bytes : (r : ℕ) → start ≤ r → r < end → b r ≡ i.byte r

-- the bytes of a directory are at hand, where there is one
abbrev pub HasTable : LaidOut → (ℕ → ℕ) → Option Directory → Type 0
HasTable i b None = Unit {0}
HasTable i b (Some d) = AreAt i b d.rva (d.rva + d.size)

-- what an export table reads is at hand: the table, its three arrays, the texts of its names, and those of its directory
pub record HasExports (i : LaidOut) (b : ℕ → ℕ) (t : ℕ → Option (List ℕ)) (d : Directory) : Type 0 where
  pub table : AreAt i b d.rva (d.rva + 40)
  pub addresses : AreAt i b (table_at i d.rva).addresses ((table_at i d.rva).addresses + 4 * (table_at i d.rva).entry_count)
  pub names : AreAt i b (table_at i d.rva).names ((table_at i d.rva).names + 4 * (table_at i d.rva).name_count)
  pub ordinals : AreAt i b (table_at i d.rva).ordinals ((table_at i d.rva).ordinals + 2 * (table_at i d.rva).name_count)
  pub texts : (k : ℕ) → k < (table_at i d.rva).name_count → t (number_at 4 i ((table_at i d.rva).names + 4 * k)) ≡ i.text (number_at 4 i ((table_at i d.rva).names + 4 * k))
  pub forwarders : (r : ℕ) → is_forwarder d r ≡ true → t r ≡ i.text r

-- of an image with such a table
abbrev pub MayHaveExports : LaidOut → (ℕ → ℕ) → (ℕ → Option (List ℕ)) → Option Directory → Type 0
MayHaveExports i b t None = Unit {0}
MayHaveExports i b t (Some d) = HasExports i b t d

-- what a lookup entry reads is at hand: its value, and the text of its name
pub record HasLookup (i : LaidOut) (b : ℕ → ℕ) (t : ℕ → Option (List ℕ)) (rva : ℕ) : Type 0 where
  pub value : AreAt i b rva (rva + i.slot_width)
  pub text : is_ordinal i (number_at i.slot_width i rva) ≡ false → t (number_at i.slot_width i rva % 2 ^ 31 + 2) ≡ i.text (number_at i.slot_width i rva % 2 ^ 31 + 2)

-- the same of the entries from an RVA on
abbrev pub HaveLookups : ℕ → (i : LaidOut) → (ℕ → ℕ) → (ℕ → Option (List ℕ)) → ℕ → Type 0
HaveLookups zero i b t rva = HasLookup i b t rva
HaveLookups (suc n) i b t rva = HasLookup i b t rva × (ends_table i (lookup_at i rva 0) ≡ false → HaveLookups n i b t (rva + i.slot_width))

-- what a descriptor reads: itself, and unless it is null its module's text and its lookup table
pub record HasDescriptor (i : LaidOut) (b : ℕ → ℕ) (t : ℕ → Option (List ℕ)) (rva : ℕ) : Type 0 where
  pub itself : AreAt i b rva (rva + 20)
  pub text : is_null (descriptor_at i rva) ≡ false → t (descriptor_at i rva).name ≡ i.text (descriptor_at i rva).name
  pub lookups : is_null (descriptor_at i rva) ≡ false → HaveLookups i.size i b t (lookup_table (descriptor_at i rva))

-- the same of the descriptors from an RVA on
abbrev pub HaveDescriptors : ℕ → (i : LaidOut) → (ℕ → ℕ) → (ℕ → Option (List ℕ)) → ℕ → Type 0
HaveDescriptors zero i b t rva = HasDescriptor i b t rva
HaveDescriptors (suc n) i b t rva = HasDescriptor i b t rva × (ends_list i (descriptor_at i rva) ≡ false → HaveDescriptors n i b t (rva + 20))

abbrev pub MayHaveImports : (i : LaidOut) → (ℕ → ℕ) → (ℕ → Option (List ℕ)) → Option Directory → Type 0
MayHaveImports i b t None = Unit {0}
MayHaveImports i b t (Some d) = HaveDescriptors i.size i b t d.rva

-- what all tables read is at hand
pub record HaveTables (i : LaidOut) (b : ℕ → ℕ) (t : ℕ → Option (List ℕ)) : Type 0 where
  pub exports : MayHaveExports i b t (i.directory 0)
  pub imports : MayHaveImports i b t (i.directory 1)
  pub fixups : HasTable i b (i.directory 5)

-- two images have the same first of faults 16 to 38, and where none stands the same tables
pub record SameTables (i j : LaidOut) : Type 0 where
  pub faults : first_standing (table_tests j) ≡ first_standing (table_tests i)
  pub exports : first_standing (table_tests i) ≡ None → exports_of j ≡ exports_of i
  pub imports : imports_of j ≡ imports_of i
  pub fixups : first_standing (table_tests i) ≡ None → fixups_of j ≡ fixups_of i
