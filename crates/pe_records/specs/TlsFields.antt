-- The TLS directory ("PE Format", The TLS Directory): six fields, in 24 bytes of PE32 and 40 of PE32+. Its directory's Size is not
-- used.
use Rattle.std.specs.Prelude.{ℕ, ◌||◌, Bool, false, nat_lt, is_none, List, [], ◌∷◌, Option, None, Some, option_map}
use Rattle.pe_view.specs.declared.fault.Place.TheVariants.{Rva}
use Rattle.pe_view.specs.Faults.{Test, test}
use Rattle.pe_layout.specs.Image.{LaidOut}
use Rattle.pe_records.specs.Address.{leads_nowhere, passes}
use Rattle.pe_records.specs.Structure.{field, field_in, structure_bytes}
use Rattle.pe_records.specs.declared.structure.Width.TheVariants.{Four, Address}
use Rattle.pe_records.specs.declared.tls_directory.TlsDirectory.{TlsDirectory}

-- the fields in these bytes, where an address has `address` bytes
abbrev pub tls_in : ℕ → List ℕ → TlsDirectory
tls_in address bytes = record {
  start_address_of_raw_data = field_in address bytes (field 0 0 Address);
  end_address_of_raw_data = field_in address bytes (field 4 8 Address);
  address_of_index = field_in address bytes (field 8 16 Address);
  address_of_callbacks = field_in address bytes (field 12 24 Address);
  size_of_zero_fill = field_in address bytes (field 16 32 Four);
  characteristics = field_in address bytes (field 20 36 Four);
}

abbrev pub tls_at : LaidOut → ℕ → TlsDirectory
tls_at i rva = tls_in i.slot_width (structure_bytes i rva 40)

abbrev pub tls_of : LaidOut → Option TlsDirectory
tls_of i = option_map (λ d. tls_at i d.rva) (i.directory 9)

-- the template ends before it starts
abbrev pub ends_early : Option ℕ → Option ℕ → Bool
ends_early None end = false
ends_early (Some start) None = false
ends_early (Some start) (Some end) = nat_lt end start

abbrev pub is_backward : TlsDirectory → Bool
is_backward t = ends_early t.start_address_of_raw_data t.end_address_of_raw_data

-- the template or the index is not in the image
abbrev pub strays : LaidOut → TlsDirectory → Bool
strays i t = passes i t.start_address_of_raw_data || passes i t.end_address_of_raw_data || leads_nowhere i t.address_of_index

-- the file does not hold it in one run, up to its last field; the template ends before it starts; the template or the index is not in
-- the image; the callbacks are not
abbrev pub structure_tests : LaidOut → ℕ → TlsDirectory → List Test
structure_tests i rva t =
    test 131 i.number (Rva rva) (is_none t.characteristics)
    ∷ test 132 i.number (Rva rva) (is_backward t)
    ∷ test 133 i.number (Rva rva) (strays i t)
    ∷ test 134 i.number (Rva rva) (leads_nowhere i t.address_of_callbacks)
    ∷ []
