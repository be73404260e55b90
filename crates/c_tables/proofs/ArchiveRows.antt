-- Rows of what C is told, worked out by hand.
use Rattle.std.proofs.Common.{◌≡◌, ℕ, true, false, List, [], ◌∷◌, refl}
use Rattle.std.specs.Prelude.{None, Some, Err, Ok, replicate, ◌++◌}
use Rattle.pe_view.specs.declared.fault.Place.TheVariants.{File}
use Rattle.coff_archive.specs.Imports.{field}
use Rattle.coff_archive.specs.Members.{Member}
use Rattle.coff_archive.specs.declared.linker.Linker.TheVariants.{First, Second}
use Rattle.c_tables.specs.ArchiveFindings.{import_found}
use Rattle.c_tables.specs.ImportRecords.{import_record, import_told}
use Rattle.c_tables.specs.MemberRows.{kind_of, whole}
use Rattle.c_tables.specs.ArchiveSymbolRows.{linker_numbered, symbol_row}

-- a short import object of `f` in `k.dll` by its name: Machine 0x8664, TimeDateStamp 0x04030201, SizeOfData 8, Ordinal or Hint 0x1234, and
-- Type 4, which is name type 1 of code
abbrev import_bytes : List ℕ
import_bytes = 0 ∷ 0 ∷ 0xff ∷ 0xff ∷ 0 ∷ 0 ∷ 0x64 ∷ 0x86 ∷ 1 ∷ 2 ∷ 3 ∷ 4 ∷ 8 ∷ 0 ∷ 0 ∷ 0 ∷ 0x34 ∷ 0x12 ∷ 4 ∷ 0 ∷ 102 ∷ 0 ∷ 107 ∷ 46 ∷ 100 ∷ 108 ∷ 108 ∷ 0 ∷ []

abbrev member : List ℕ → List ℕ → Member
member field bytes = record { offset = 8; field = field ++ replicate 14 32; size = 28; bytes = bytes }

-- `/`, `//`, `/S` (as in `/SYM64/`), `a/` and `/1`
row_linker : kind_of false (member (47 ∷ 32 ∷ []) []) ≡ 2
row_linker = refl

row_long_names : kind_of true (member (47 ∷ 47 ∷ []) []) ≡ 3
row_long_names = refl

row_own : kind_of true (member (47 ∷ 83 ∷ []) []) ≡ 4
row_own = refl

row_file : kind_of false (member (97 ∷ 47 ∷ []) (0 ∷ 1 ∷ [])) ≡ 0
row_file = refl

row_import : kind_of false (member (47 ∷ 49 ∷ []) import_bytes) ≡ 1
unfolding field
row_import = refl

row_apart : kind_of true (member (47 ∷ 49 ∷ []) import_bytes) ≡ 5
unfolding field
row_apart = refl

row_whole : whole (Ok (member (97 ∷ 47 ∷ []) []) ∷ Err (record { number = 301; image = 0; place = File 68 }) ∷ []) ≡ member (97 ∷ 47 ∷ []) [] ∷ []
row_whole = refl

row_first : linker_numbered 1 ≡ Some First
row_first = refl

row_second : linker_numbered 2 ≡ Some Second
row_second = refl

row_no_linker : linker_numbered 0 ≡ None
row_no_linker = refl

row_other_linker : linker_numbered 3 ≡ None
row_other_linker = refl

row_symbol : symbol_row (record { name = 97 ∷ []; member = Some 264 }) ≡ record { name = 97 ∷ []; member = record { value = 264; is_present = true } }
row_symbol = refl

row_lost_symbol : symbol_row (record { name = 97 ∷ []; member = None }) ≡ record { name = 97 ∷ []; member = record { value = 0; is_present = false } }
row_lost_symbol = refl

-- by a name and by an ordinal
row_import_object : import_told import_bytes ≡ Some (record {
  symbol = 102 ∷ [];
  «module» = 107 ∷ 46 ∷ 100 ∷ 108 ∷ 108 ∷ [];
  name = 102 ∷ [];
  time_date_stamp = 0x04030201;
  machine = 0x8664;
  ordinal = 0x1234;
  kind = 0;
  name_type = 1;
})
unfolding field
row_import_object = refl

row_by_ordinal : import_record (record { machine = 1; time_stamp = 2; ordinal = 3; kind = 1; name_type = 0; symbol = 102 ∷ []; «module» = 107 ∷ []; export = [] })
    ≡ record { symbol = 102 ∷ []; «module» = 107 ∷ []; name = []; time_date_stamp = 2; machine = 1; ordinal = 3; kind = 1; name_type = 0 }
row_by_ordinal = refl

row_no_import : import_told (0 ∷ []) ≡ None
row_no_import = refl

-- of one that is cut there is finding 331, but not in a thin archive, nor in a member of the archive's own
row_found : import_found false (Ok (member (97 ∷ 47 ∷ []) (0 ∷ 0 ∷ 0xff ∷ 0xff ∷ 0 ∷ 0 ∷ 0x64 ∷ 0x86 ∷ 1 ∷ 2 ∷ 3 ∷ 4 ∷ 8 ∷ 0 ∷ 0 ∷ 0 ∷ 0x34 ∷ 0x12 ∷ 4 ∷ 0 ∷ []))) ≡ record { number = 331; image = 0; place = File 8 } ∷ []
unfolding field
row_found = refl

row_thin : import_found true (Ok (member (97 ∷ 47 ∷ []) (0 ∷ 0 ∷ 0xff ∷ 0xff ∷ 0 ∷ 0 ∷ 0x64 ∷ 0x86 ∷ 1 ∷ 2 ∷ 3 ∷ 4 ∷ 8 ∷ 0 ∷ 0 ∷ 0 ∷ 0x34 ∷ 0x12 ∷ 4 ∷ 0 ∷ []))) ≡ []
unfolding field
row_thin = refl

row_not_own : import_found false (Ok (member (47 ∷ 32 ∷ []) (0 ∷ 0 ∷ 0xff ∷ 0xff ∷ 0 ∷ 0 ∷ 0x64 ∷ 0x86 ∷ 1 ∷ 2 ∷ 3 ∷ 4 ∷ 8 ∷ 0 ∷ 0 ∷ 0 ∷ 0x34 ∷ 0x12 ∷ 4 ∷ 0 ∷ []))) ≡ []
unfolding field
row_not_own = refl
