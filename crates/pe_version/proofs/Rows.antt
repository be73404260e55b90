-- Version information of a real image, the launcher t64.exe of Python's distlib: the values are those that pefile reads.
use Rattle.std.proofs.Common.{◌≡◌, refl, ℕ, List, [], ◌∷◌, Some}
use Rattle.std.specs.Prelude.{codes}
use Rattle.std.specs.Char.Utf16.{utf16_chars}
use Rattle.pe_view.specs.Standing.{standing}
use Rattle.pe_version.specs.Findings.{version_tests}
use Rattle.pe_version.specs.FixedInfo.{fixed_info_of, version_of}
use Rattle.pe_version.specs.Parts.{utf16}
use Rattle.pe_version.specs.Strings.{Text, strings_of}
use Rattle.pe_version.specs.Tables.{Entry, tables_of}
use Rattle.pe_version.specs.Units.{characters}

-- its data
abbrev launcher : List ℕ
launcher =
    8 ∷ 3 ∷ 52 ∷ 0 ∷ 0 ∷ 0 ∷ 86 ∷ 0 ∷ 83 ∷ 0 ∷ 95 ∷ 0 ∷ 86 ∷ 0 ∷ 69 ∷ 0 ∷ 82 ∷ 0 ∷ 83 ∷ 0 ∷ 73 ∷ 0 ∷ 79 ∷ 0 ∷ 78 ∷ 0 ∷ 95 ∷ 0 ∷ 73 ∷ 0 ∷ 78 ∷ 0 ∷
    70 ∷ 0 ∷ 79 ∷ 0 ∷ 0 ∷ 0 ∷ 0 ∷ 0 ∷ 189 ∷ 4 ∷ 239 ∷ 254 ∷ 0 ∷ 0 ∷ 1 ∷ 0 ∷ 1 ∷ 0 ∷ 1 ∷ 0 ∷ 14 ∷ 0 ∷ 0 ∷ 0 ∷ 1 ∷ 0 ∷ 1 ∷ 0 ∷ 14 ∷ 0 ∷ 0 ∷ 0 ∷
    63 ∷ 0 ∷ 0 ∷ 0 ∷ 0 ∷ 0 ∷ 0 ∷ 0 ∷ 4 ∷ 0 ∷ 4 ∷ 0 ∷ 1 ∷ 0 ∷ 0 ∷ 0 ∷ 0 ∷ 0 ∷ 0 ∷ 0 ∷ 0 ∷ 0 ∷ 0 ∷ 0 ∷ 0 ∷ 0 ∷ 0 ∷ 0 ∷ 102 ∷ 2 ∷ 0 ∷ 0 ∷
    1 ∷ 0 ∷ 83 ∷ 0 ∷ 116 ∷ 0 ∷ 114 ∷ 0 ∷ 105 ∷ 0 ∷ 110 ∷ 0 ∷ 103 ∷ 0 ∷ 70 ∷ 0 ∷ 105 ∷ 0 ∷ 108 ∷ 0 ∷ 101 ∷ 0 ∷ 73 ∷ 0 ∷ 110 ∷ 0 ∷ 102 ∷ 0 ∷ 111 ∷ 0 ∷ 0 ∷ 0 ∷
    66 ∷ 2 ∷ 0 ∷ 0 ∷ 1 ∷ 0 ∷ 48 ∷ 0 ∷ 56 ∷ 0 ∷ 48 ∷ 0 ∷ 57 ∷ 0 ∷ 48 ∷ 0 ∷ 52 ∷ 0 ∷ 98 ∷ 0 ∷ 48 ∷ 0 ∷ 0 ∷ 0 ∷ 74 ∷ 0 ∷ 21 ∷ 0 ∷ 1 ∷ 0 ∷ 67 ∷ 0 ∷
    111 ∷ 0 ∷ 109 ∷ 0 ∷ 112 ∷ 0 ∷ 97 ∷ 0 ∷ 110 ∷ 0 ∷ 121 ∷ 0 ∷ 78 ∷ 0 ∷ 97 ∷ 0 ∷ 109 ∷ 0 ∷ 101 ∷ 0 ∷ 0 ∷ 0 ∷ 0 ∷ 0 ∷ 83 ∷ 0 ∷ 105 ∷ 0 ∷ 109 ∷ 0 ∷ 112 ∷ 0 ∷
    108 ∷ 0 ∷ 101 ∷ 0 ∷ 32 ∷ 0 ∷ 76 ∷ 0 ∷ 97 ∷ 0 ∷ 117 ∷ 0 ∷ 110 ∷ 0 ∷ 99 ∷ 0 ∷ 104 ∷ 0 ∷ 101 ∷ 0 ∷ 114 ∷ 0 ∷ 32 ∷ 0 ∷ 85 ∷ 0 ∷ 115 ∷ 0 ∷ 101 ∷ 0 ∷ 114 ∷ 0 ∷
    0 ∷ 0 ∷ 0 ∷ 0 ∷ 94 ∷ 0 ∷ 27 ∷ 0 ∷ 1 ∷ 0 ∷ 70 ∷ 0 ∷ 105 ∷ 0 ∷ 108 ∷ 0 ∷ 101 ∷ 0 ∷ 68 ∷ 0 ∷ 101 ∷ 0 ∷ 115 ∷ 0 ∷ 99 ∷ 0 ∷ 114 ∷ 0 ∷ 105 ∷ 0 ∷ 112 ∷ 0 ∷
    116 ∷ 0 ∷ 105 ∷ 0 ∷ 111 ∷ 0 ∷ 110 ∷ 0 ∷ 0 ∷ 0 ∷ 0 ∷ 0 ∷ 83 ∷ 0 ∷ 105 ∷ 0 ∷ 109 ∷ 0 ∷ 112 ∷ 0 ∷ 108 ∷ 0 ∷ 101 ∷ 0 ∷ 32 ∷ 0 ∷ 76 ∷ 0 ∷ 97 ∷ 0 ∷ 117 ∷ 0 ∷
    110 ∷ 0 ∷ 99 ∷ 0 ∷ 104 ∷ 0 ∷ 101 ∷ 0 ∷ 114 ∷ 0 ∷ 32 ∷ 0 ∷ 69 ∷ 0 ∷ 120 ∷ 0 ∷ 101 ∷ 0 ∷ 99 ∷ 0 ∷ 117 ∷ 0 ∷ 116 ∷ 0 ∷ 97 ∷ 0 ∷ 98 ∷ 0 ∷ 108 ∷ 0 ∷ 101 ∷ 0 ∷
    0 ∷ 0 ∷ 0 ∷ 0 ∷ 50 ∷ 0 ∷ 9 ∷ 0 ∷ 1 ∷ 0 ∷ 70 ∷ 0 ∷ 105 ∷ 0 ∷ 108 ∷ 0 ∷ 101 ∷ 0 ∷ 86 ∷ 0 ∷ 101 ∷ 0 ∷ 114 ∷ 0 ∷ 115 ∷ 0 ∷ 105 ∷ 0 ∷ 111 ∷ 0 ∷ 110 ∷ 0 ∷
    0 ∷ 0 ∷ 0 ∷ 0 ∷ 49 ∷ 0 ∷ 46 ∷ 0 ∷ 49 ∷ 0 ∷ 46 ∷ 0 ∷ 48 ∷ 0 ∷ 46 ∷ 0 ∷ 49 ∷ 0 ∷ 52 ∷ 0 ∷ 0 ∷ 0 ∷ 0 ∷ 0 ∷ 48 ∷ 0 ∷ 8 ∷ 0 ∷ 1 ∷ 0 ∷ 73 ∷ 0 ∷
    110 ∷ 0 ∷ 116 ∷ 0 ∷ 101 ∷ 0 ∷ 114 ∷ 0 ∷ 110 ∷ 0 ∷ 97 ∷ 0 ∷ 108 ∷ 0 ∷ 78 ∷ 0 ∷ 97 ∷ 0 ∷ 109 ∷ 0 ∷ 101 ∷ 0 ∷ 0 ∷ 0 ∷ 116 ∷ 0 ∷ 54 ∷ 0 ∷ 52 ∷ 0 ∷ 46 ∷ 0 ∷
    101 ∷ 0 ∷ 120 ∷ 0 ∷ 101 ∷ 0 ∷ 0 ∷ 0 ∷ 106 ∷ 0 ∷ 35 ∷ 0 ∷ 1 ∷ 0 ∷ 76 ∷ 0 ∷ 101 ∷ 0 ∷ 103 ∷ 0 ∷ 97 ∷ 0 ∷ 108 ∷ 0 ∷ 67 ∷ 0 ∷ 111 ∷ 0 ∷ 112 ∷ 0 ∷ 121 ∷ 0 ∷
    114 ∷ 0 ∷ 105 ∷ 0 ∷ 103 ∷ 0 ∷ 104 ∷ 0 ∷ 116 ∷ 0 ∷ 0 ∷ 0 ∷ 67 ∷ 0 ∷ 111 ∷ 0 ∷ 112 ∷ 0 ∷ 121 ∷ 0 ∷ 114 ∷ 0 ∷ 105 ∷ 0 ∷ 103 ∷ 0 ∷ 104 ∷ 0 ∷ 116 ∷ 0 ∷ 32 ∷ 0 ∷
    40 ∷ 0 ∷ 67 ∷ 0 ∷ 41 ∷ 0 ∷ 32 ∷ 0 ∷ 83 ∷ 0 ∷ 105 ∷ 0 ∷ 109 ∷ 0 ∷ 112 ∷ 0 ∷ 108 ∷ 0 ∷ 101 ∷ 0 ∷ 32 ∷ 0 ∷ 76 ∷ 0 ∷ 97 ∷ 0 ∷ 117 ∷ 0 ∷ 110 ∷ 0 ∷ 99 ∷ 0 ∷
    104 ∷ 0 ∷ 101 ∷ 0 ∷ 114 ∷ 0 ∷ 32 ∷ 0 ∷ 85 ∷ 0 ∷ 115 ∷ 0 ∷ 101 ∷ 0 ∷ 114 ∷ 0 ∷ 0 ∷ 0 ∷ 0 ∷ 0 ∷ 56 ∷ 0 ∷ 8 ∷ 0 ∷ 1 ∷ 0 ∷ 79 ∷ 0 ∷ 114 ∷ 0 ∷ 105 ∷ 0 ∷
    103 ∷ 0 ∷ 105 ∷ 0 ∷ 110 ∷ 0 ∷ 97 ∷ 0 ∷ 108 ∷ 0 ∷ 70 ∷ 0 ∷ 105 ∷ 0 ∷ 108 ∷ 0 ∷ 101 ∷ 0 ∷ 110 ∷ 0 ∷ 97 ∷ 0 ∷ 109 ∷ 0 ∷ 101 ∷ 0 ∷ 0 ∷ 0 ∷ 116 ∷ 0 ∷ 54 ∷ 0 ∷
    52 ∷ 0 ∷ 46 ∷ 0 ∷ 101 ∷ 0 ∷ 120 ∷ 0 ∷ 101 ∷ 0 ∷ 0 ∷ 0 ∷ 64 ∷ 0 ∷ 16 ∷ 0 ∷ 1 ∷ 0 ∷ 80 ∷ 0 ∷ 114 ∷ 0 ∷ 111 ∷ 0 ∷ 100 ∷ 0 ∷ 117 ∷ 0 ∷ 99 ∷ 0 ∷ 116 ∷ 0 ∷
    78 ∷ 0 ∷ 97 ∷ 0 ∷ 109 ∷ 0 ∷ 101 ∷ 0 ∷ 0 ∷ 0 ∷ 0 ∷ 0 ∷ 83 ∷ 0 ∷ 105 ∷ 0 ∷ 109 ∷ 0 ∷ 112 ∷ 0 ∷ 108 ∷ 0 ∷ 101 ∷ 0 ∷ 32 ∷ 0 ∷ 76 ∷ 0 ∷ 97 ∷ 0 ∷ 117 ∷ 0 ∷
    110 ∷ 0 ∷ 99 ∷ 0 ∷ 104 ∷ 0 ∷ 101 ∷ 0 ∷ 114 ∷ 0 ∷ 0 ∷ 0 ∷ 54 ∷ 0 ∷ 9 ∷ 0 ∷ 1 ∷ 0 ∷ 80 ∷ 0 ∷ 114 ∷ 0 ∷ 111 ∷ 0 ∷ 100 ∷ 0 ∷ 117 ∷ 0 ∷ 99 ∷ 0 ∷ 116 ∷ 0 ∷
    86 ∷ 0 ∷ 101 ∷ 0 ∷ 114 ∷ 0 ∷ 115 ∷ 0 ∷ 105 ∷ 0 ∷ 111 ∷ 0 ∷ 110 ∷ 0 ∷ 0 ∷ 0 ∷ 49 ∷ 0 ∷ 46 ∷ 0 ∷ 49 ∷ 0 ∷ 46 ∷ 0 ∷ 48 ∷ 0 ∷ 46 ∷ 0 ∷ 49 ∷ 0 ∷ 52 ∷ 0 ∷
    0 ∷ 0 ∷ 0 ∷ 0 ∷ 68 ∷ 0 ∷ 0 ∷ 0 ∷ 1 ∷ 0 ∷ 86 ∷ 0 ∷ 97 ∷ 0 ∷ 114 ∷ 0 ∷ 70 ∷ 0 ∷ 105 ∷ 0 ∷ 108 ∷ 0 ∷ 101 ∷ 0 ∷ 73 ∷ 0 ∷ 110 ∷ 0 ∷ 102 ∷ 0 ∷ 111 ∷ 0 ∷
    0 ∷ 0 ∷ 0 ∷ 0 ∷ 36 ∷ 0 ∷ 4 ∷ 0 ∷ 0 ∷ 0 ∷ 84 ∷ 0 ∷ 114 ∷ 0 ∷ 97 ∷ 0 ∷ 110 ∷ 0 ∷ 115 ∷ 0 ∷ 108 ∷ 0 ∷ 97 ∷ 0 ∷ 116 ∷ 0 ∷ 105 ∷ 0 ∷ 111 ∷ 0 ∷ 110 ∷ 0 ∷
    0 ∷ 0 ∷ 0 ∷ 0 ∷ 9 ∷ 4 ∷ 176 ∷ 4 ∷ []

-- a string of its only table
abbrev text : List ℕ → List ℕ → Text
text key value = record { table = utf16 (codes "080904b0"); key = utf16 key; value = utf16 value }

strings : strings_of launcher ≡
    text (codes "CompanyName") (codes "Simple Launcher User") ∷
    text (codes "FileDescription") (codes "Simple Launcher Executable") ∷
    text (codes "FileVersion") (codes "1.1.0.14") ∷
    text (codes "InternalName") (codes "t64.exe") ∷
    text (codes "LegalCopyright") (codes "Copyright (C) Simple Launcher User") ∷
    text (codes "OriginalFilename") (codes "t64.exe") ∷
    text (codes "ProductName") (codes "Simple Launcher") ∷
    text (codes "ProductVersion") (codes "1.1.0.14") ∷ []
strings = refl

fixed : fixed_info_of launcher ≡ Some (record {
  structure_version = 65536;
  file_version_high = 65537;
  file_version_low = 14;
  product_version_high = 65537;
  product_version_low = 14;
  flags_mask = 63;
  flags = 0;
  system = 262148;
  kind = 1;
  subkind = 0;
  date_high = 0;
  date_low = 0;
})
fixed = refl

no_finding : standing (version_tests 0 0x1000 launcher) ≡ []
no_finding = refl

four_numbers : version_of 65537 14 ≡ 1 ∷ 1 ∷ 0 ∷ 14 ∷ []
four_numbers = refl

-- U+1F600, which is d83d de00; and a surrogate without a partner, then A
pair : characters (0x3d ∷ 0xd8 ∷ 0x00 ∷ 0xde ∷ []) ≡ 0x1f600 ∷ []
unfolding utf16_chars
pair = refl

lone : characters (0x3d ∷ 0xd8 ∷ 0x41 ∷ 0x00 ∷ []) ≡ 0xfffd ∷ 0x41 ∷ []
unfolding utf16_chars
lone = refl

-- the same strings, in their table
entry : List ℕ → List ℕ → Entry
entry key value = record { key = utf16 key; value = utf16 value }

tables : tables_of launcher ≡
    record {
      key = utf16 (codes "080904b0");
      strings =
          entry (codes "CompanyName") (codes "Simple Launcher User") ∷
          entry (codes "FileDescription") (codes "Simple Launcher Executable") ∷
          entry (codes "FileVersion") (codes "1.1.0.14") ∷
          entry (codes "InternalName") (codes "t64.exe") ∷
          entry (codes "LegalCopyright") (codes "Copyright (C) Simple Launcher User") ∷
          entry (codes "OriginalFilename") (codes "t64.exe") ∷
          entry (codes "ProductName") (codes "Simple Launcher") ∷
          entry (codes "ProductVersion") (codes "1.1.0.14") ∷ [];
    } ∷ []
unfolding entry
tables = refl
