-- The CLR header (ECMA-335, II.25.3.3). Its first field, cb, says how many bytes it has; the Size of its directory is not used.
use Rattle.std.specs.Prelude.{ℕ, ◌+◌, ◌==◌, ◌||◌, ◌&&◌, Bool, true, false, not, nat_lt, List, [], ◌∷◌, Option, None, Some}
use Rattle.pe_view.specs.declared.fault.Place.TheVariants.{Rva}
use Rattle.pe_view.specs.Faults.{Test, test}
use Rattle.pe_head.specs.declared.directory.Directory.{Directory}
use Rattle.pe_layout.specs.Image.{LaidOut, is_inside}
use Rattle.pe_records.specs.LoadConfiguration.{load_bytes_at, size_at}
use Rattle.pe_records.specs.Structure.{field, number_in, structure_bytes}
use Rattle.pe_records.specs.declared.structure.Field.{Field}
use Rattle.pe_records.specs.declared.structure.Width.TheVariants.{Two, Four}

abbrev pub four : ℕ → Field
four offset = field offset offset Four

abbrev pub clr_fields : List Field
clr_fields =
    four 0  -- cb
    ∷ field 4 4 Two  -- MajorRuntimeVersion
    ∷ field 6 6 Two  -- MinorRuntimeVersion
    ∷ four 8  -- MetaData
    ∷ four 12
    ∷ four 16  -- Flags
    ∷ four 20  -- EntryPointToken
    ∷ four 24  -- Resources
    ∷ four 28
    ∷ four 32  -- StrongNameSignature
    ∷ four 36
    ∷ four 40  -- CodeManagerTable
    ∷ four 44
    ∷ four 48  -- VTableFixups
    ∷ four 52
    ∷ four 56  -- ExportAddressTableJumps
    ∷ four 60
    ∷ four 64  -- ManagedNativeHeader
    ∷ four 68
    ∷ []

-- the bytes of the header, if it has a field cb
abbrev pub clr_bytes : LaidOut → Option (List ℕ)
clr_bytes i = load_bytes_at i (i.directory 14)

abbrev pub extent_passes : LaidOut → Option ℕ → Option ℕ → Bool
extent_passes i None size = false
extent_passes i (Some rva) None = false
extent_passes i (Some rva) (Some size) = not (rva == 0) && not (is_inside i rva size)

-- the RVA and the size at an offset are those of bytes that are not all in the image
abbrev pub directory_passes : LaidOut → List ℕ → ℕ → Bool
directory_passes i bytes offset = extent_passes i (number_in 4 bytes offset) (number_in 4 bytes (offset + 4))

abbrev pub any_directory_passes : LaidOut → List ℕ → Bool
any_directory_passes i bytes =
    directory_passes i bytes 8
    || (directory_passes i bytes 24
    || (directory_passes i bytes 32
    || (directory_passes i bytes 40
    || (directory_passes i bytes 48
    || (directory_passes i bytes 56 || directory_passes i bytes 64)))))

-- the file does not hold all of it in one run; one of its directories passes the end of the image
abbrev pub clr_tests_of : LaidOut → ℕ → Option ℕ → List Test
clr_tests_of i rva None = test 251 i.number (Rva rva) true ∷ []
clr_tests_of i rva (Some size) =
    test 251 i.number (Rva rva) (nat_lt (i.raw_left rva) size)
    ∷ test 252 i.number (Rva rva) (any_directory_passes i (structure_bytes i rva size))
    ∷ []

abbrev pub clr_tests_at : LaidOut → Option Directory → List Test
clr_tests_at i None = []
clr_tests_at i (Some d) = clr_tests_of i d.rva (size_at i d.rva)

abbrev pub clr_tests : LaidOut → List Test
clr_tests i = clr_tests_at i (i.directory 14)
