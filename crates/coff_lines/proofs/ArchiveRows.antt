-- Dumps of archives by the definitions, written out: an import library with one import by name and one by ordinal, an archive that
-- breaks rules, and a thin one.
use Rattle.std.proofs.Common.{◌≡◌, ◌++◌, ℕ, List, [], ◌∷◌, Some, None, Ok, Err, false, true, refl, codes}
use Rattle.std.specs.Fmt.{digits}
use Rattle.pe_view.specs.declared.fault.Place.TheVariants.{File}
use Rattle.pe_head.specs.Names.{machine_names}
use Rattle.coff_archive.specs.Front.{special_at, behind}
use Rattle.coff_archive.specs.Imports.{field}
use Rattle.coff_read.specs.Field as object
use Rattle.coff_read.specs.FormFaults.{object_tests}
use Rattle.pe_text.specs.FaultLine.{fault_line, fault_words, place_text}
use Rattle.pe_text.specs.Text as text
use Rattle.pe_text.specs.Text.{hex, quoted, escaped}
use Rattle.coff_lines.specs.ArchiveLines.{archive_lines, archive_fault, member_line, import_line, contents_tests, contents_text}
use Rattle.coff_lines.specs.MemberFile.{member_file}

-- what comes after the name in a header: no date, no owner and no mode
abbrev header : List ℕ → List ℕ
header size = codes "0           0     0     0       " ++ size ++ codes "`\n"

-- AMD64, a hint of 5, code, by the symbol's name; and I386, ordinal 7, data
abbrev by_name : List ℕ
by_name = (0 ∷ 0 ∷ 0xff ∷ 0xff ∷ 0 ∷ 0 ∷ 0x64 ∷ 0x86 ∷ 0 ∷ 0 ∷ 0 ∷ 0 ∷ 8 ∷ 0 ∷ 0 ∷ 0 ∷ 5 ∷ 0 ∷ 4 ∷ 0 ∷ []) ++ codes "f" ++ (0 ∷ []) ++ codes "k.dll" ++ (0 ∷ [])

abbrev by_ordinal : List ℕ
by_ordinal = (0 ∷ 0 ∷ 0xff ∷ 0xff ∷ 0 ∷ 0 ∷ 0x4c ∷ 0x01 ∷ 0 ∷ 0 ∷ 0 ∷ 0 ∷ 9 ∷ 0 ∷ 0 ∷ 0 ∷ 7 ∷ 0 ∷ 1 ∷ 0 ∷ []) ++ codes "_g" ++ (0 ∷ []) ++ codes "k.dll" ++ (0 ∷ [])

abbrev import_library : List ℕ
import_library = codes "!<arch>\n" ++ codes "k.dll/          " ++ header (codes "28        ") ++ by_name ++ codes "k.dll/          " ++ header (codes "29        ") ++ by_ordinal

imports : archive_lines false import_library
    ≡ codes "archive\n"
    ++ codes "member \"k.dll\" offset 0x00000008 size 28\n"
    ++ codes "import \"f\" module \"k.dll\" name \"f\" hint 5 type 0 code machine 0x8664 AMD64\n"
    ++ codes "member \"k.dll\" offset 0x00000060 size 29\n"
    ++ codes "import \"_g\" module \"k.dll\" ordinal 7 type 1 data machine 0x014c I386\n"
    ++ codes "end\n"
unfolding archive_lines member_line import_line contents_tests contents_text special_at behind field fault_line fault_words place_text quoted escaped hex digits machine_names
imports = refl

no_fault : archive_fault false import_library ≡ None
unfolding archive_fault contents_tests special_at behind field
no_fault = refl

-- a name that leads nowhere, an object without a header, and two bytes where a header should be
abbrev broken : List ℕ
broken = codes "!<arch>\n" ++ codes "/5              " ++ header (codes "0         ") ++ codes "zz"

faults : archive_lines false broken
    ≡ codes "archive\n"
    ++ codes "member unnamed offset 0x00000008 size 0\n"
    ++ codes "fault 304 image 0 file 0x00000008\n"
    ++ codes "fault 61 image 0 file 0x00000000\n"
    ++ codes "fault 301 image 0 file 0x00000044\n"
    ++ codes "end\n"
unfolding archive_lines member_line import_line contents_tests contents_text special_at behind field object.field object_tests fault_line fault_words place_text quoted escaped hex text.width_from digits machine_names
faults = refl

first_fault : archive_fault false broken ≡ Some (record { number = 304; image = 0; place = File 8 })
unfolding archive_fault contents_tests special_at behind field object.field object_tests
first_fault = refl

-- an object has a fault, and its member none
object_fault : archive_fault false (codes "!<arch>\n" ++ codes "a.o/            " ++ header (codes "1         ") ++ codes "x") ≡ Some (record { number = 307; image = 0; place = File 8 })
unfolding archive_fault contents_tests special_at behind field object.field object_tests
object_fault = refl

-- of a thin archive's member there is no more than its line
thin : archive_lines true (codes "!<thin>\n" ++ codes "a.o/            " ++ header (codes "100       "))
    ≡ codes "thin archive\n" ++ codes "member \"a.o\" offset 0x00000008 size 100\n" ++ codes "end\n"
unfolding archive_lines member_line import_line contents_tests contents_text special_at behind field fault_line fault_words place_text quoted escaped hex digits
thin = refl

-- members by name: the first and the second of one, none further; why there is none; a file of its own; and a file that is no archive
first_named : member_file import_library (codes "k.dll") 0 ≡ Some (Ok (Some by_name))
unfolding special_at behind
first_named = refl

second_named : member_file import_library (codes "k.dll") 1 ≡ Some (Ok (Some by_ordinal))
unfolding special_at behind
second_named = refl

no_third : member_file import_library (codes "k.dll") 2 ≡ None
unfolding special_at behind
no_third = refl

none_by_front : member_file import_library (codes "k.dl") 0 ≡ None
unfolding special_at behind
none_by_front = refl

ended : member_file broken (codes "k.dll") 0 ≡ Some (Err (record { number = 301; image = 0; place = File 0x44 }))
unfolding special_at behind
ended = refl

own_file : member_file (codes "!<thin>\n" ++ codes "a.o/            " ++ header (codes "100       ")) (codes "a.o") 0 ≡ Some (Ok None)
unfolding special_at behind
own_file = refl

no_archive : member_file (codes "MZ") (codes "a.o") 0 ≡ Some (Err (record { number = 300; image = 0; place = File 0 }))
unfolding special_at behind
no_archive = refl
