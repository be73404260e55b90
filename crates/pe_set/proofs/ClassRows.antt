-- Whole sets by the definitions, as examples.
use Rattle.std.proofs.Common.{◌≡◌, ℕ, List, [], ◌∷◌, Some, None, refl, codes}
use Rattle.pe_view.specs.declared.fault.Place.TheVariants.{File, Rva, Address, Item}
use Rattle.pe_head.specs.HeaderFaults.{head_tests}
use Rattle.pe_head.specs.V1.{put, v1}
use Rattle.pe_layout.specs.SectionFaults.{sections_tests}
use Rattle.pe_tables.specs.ImportFaults.{lookups_tests, descriptors_tests}
use Rattle.pe_image.specs.ImageTests.{table_tests, image_tests}
use Rattle.pe_set.specs.Set.{Entry, modules_of}
use Rattle.pe_set.specs.Search.{resolve}
use Rattle.pe_set.specs.SetFaults.{names_tests, files_tests, places_tests}
use Rattle.pe_set.specs.SetErrors.{imports_errors, set_errors, set_error}
use Rattle.pe_set.specs.declared.error.MapError.TheVariants as errors
use Rattle.pe_set.specs.declared.entry.Policy.TheVariants.{Strict, Known}

-- an entry with a name, a file and a base
abbrev entry : List ℕ → List ℕ → ℕ → Entry
entry name file base = record { name = name; file = file; base = base }

-- a file that imports ordinal 5 of `b.dll`: its import directory, tables and string are in its headers
abbrev importing : List ℕ
importing =
    put 0xc0 (0x80 ∷ 0x01 ∷ 0 ∷ 0 ∷ 0x28 ∷ [])
    (put 0x180 (0xa8 ∷ 0x01 ∷ 0 ∷ 0 ∷ 0 ∷ 0 ∷ 0 ∷ 0 ∷ 0 ∷ 0 ∷ 0 ∷ 0 ∷ 0xc0 ∷ 0x01 ∷ 0 ∷ 0 ∷ 0xb0 ∷ 0x01 ∷ [])
    (put 0x1a8 (0x05 ∷ 0 ∷ 0 ∷ 0x80 ∷ [])
    (put 0x1b0 (0x05 ∷ 0 ∷ 0 ∷ 0x80 ∷ [])
    (put 0x1c0 (codes "b.dll") v1))))

-- ---- sets without an error
-- a set of no entries
no_entries : set_error Strict [] ≡ None
unfolding set_errors names_tests files_tests places_tests imports_errors modules_of
no_entries = refl

-- one image at its ImageBase
one_image : set_error Strict (entry (codes "a.dll") v1 0x10000000 ∷ []) ≡ None
unfolding set_errors names_tests files_tests places_tests imports_errors modules_of image_tests table_tests head_tests sections_tests
one_image = refl

-- the same file under two names, at two bases
one_file_twice : set_error Strict (entry (codes "a.dll") v1 0x10000000 ∷ entry (codes "b.dll") v1 0x20000000 ∷ []) ≡ None
unfolding set_errors names_tests files_tests places_tests imports_errors modules_of image_tests table_tests head_tests sections_tests
one_file_twice = refl

-- ---- the classes of faults, each tested after the ones before
-- 42 of the second entry before 2 of the first: names count before files
names_before_files : set_error Strict (entry (codes "a.dll") [] 0 ∷ entry (codes "A.DLL") [] 0 ∷ []) ≡ Some (errors.Fault (record { number = 42; image = 1; place = Item 1 }))
unfolding set_errors names_tests
names_before_files = refl

-- the first of two files with a fault counts
first_file : set_error Strict (entry (codes "a.dll") [] 0 ∷ entry (codes "b.dll") [] 0 ∷ []) ≡ Some (errors.Fault (record { number = 2; image = 0; place = File 0 }))
unfolding set_errors names_tests files_tests image_tests head_tests
first_file = refl

-- the fault of a file has the number of its entry, and 2 of the second entry comes before 44 of the first: files count before
-- places
files_before_places : set_error Strict (entry (codes "a.dll") v1 0x10008000 ∷ entry (codes "b.dll") [] 0 ∷ []) ≡ Some (errors.Fault (record { number = 2; image = 1; place = File 0 }))
unfolding set_errors names_tests files_tests places_tests imports_errors modules_of image_tests table_tests head_tests sections_tests
files_before_places = refl

-- 44
no_multiple : set_error Strict (entry (codes "a.dll") v1 0x10008000 ∷ []) ≡ Some (errors.Fault (record { number = 44; image = 0; place = Address 0x10008000 }))
unfolding set_errors names_tests files_tests places_tests imports_errors modules_of image_tests table_tests head_tests sections_tests
no_multiple = refl

-- 45: PE32 images end at 2^32
past_the_end : set_error Strict (entry (codes "a.dll") v1 0x100000000 ∷ []) ≡ Some (errors.Fault (record { number = 45; image = 0; place = Address 0x100000000 }))
unfolding set_errors names_tests files_tests places_tests imports_errors modules_of image_tests table_tests head_tests sections_tests
past_the_end = refl

-- 46: the same file with RELOCS_STRIPPED
stripped : set_error Strict (entry (codes "a.dll") (put 0x56 (3 ∷ []) v1) 0x10010000 ∷ []) ≡ Some (errors.Fault (record { number = 46; image = 0; place = Address 0x10010000 }))
unfolding set_errors names_tests files_tests places_tests imports_errors modules_of image_tests table_tests head_tests sections_tests
stripped = refl

-- it may be at its ImageBase
stripped_at_its_image_base : set_error Strict (entry (codes "a.dll") (put 0x56 (3 ∷ []) v1) 0x10000000 ∷ []) ≡ None
unfolding set_errors names_tests files_tests places_tests imports_errors modules_of image_tests table_tests head_tests sections_tests
stripped_at_its_image_base = refl

-- 47: two images at one base
overlapping : set_error Strict (entry (codes "a.dll") v1 0x10000000 ∷ entry (codes "b.dll") v1 0x10000000 ∷ []) ≡ Some (errors.Fault (record { number = 47; image = 1; place = Address 0x10000000 }))
unfolding set_errors names_tests files_tests places_tests imports_errors modules_of image_tests table_tests head_tests sections_tests
overlapping = refl

-- 48: an import of a module that is not in the set
imports_alone : set_error Strict (entry (codes "c.exe") importing 0x10000000 ∷ []) ≡ Some (errors.Fault (record { number = 48; image = 0; place = Rva 0x1b0 }))
unfolding set_errors names_tests files_tests places_tests imports_errors modules_of image_tests table_tests head_tests sections_tests lookups_tests descriptors_tests resolve
imports_alone = refl

-- no fault under the other policy
left_alone : set_error Known (entry (codes "c.exe") importing 0x10000000 ∷ []) ≡ None
unfolding set_errors names_tests files_tests places_tests imports_errors modules_of image_tests table_tests head_tests sections_tests lookups_tests descriptors_tests resolve
left_alone = refl

-- 49: the module is in the set, and exports nothing
not_exported : set_error Known (entry (codes "c.exe") importing 0x10000000 ∷ entry (codes "B.DLL") v1 0x20000000 ∷ []) ≡ Some (errors.Fault (record { number = 49; image = 0; place = Rva 0x1b0 }))
unfolding set_errors names_tests files_tests places_tests imports_errors modules_of image_tests table_tests head_tests sections_tests lookups_tests descriptors_tests resolve
not_exported = refl

-- 44 of the second image before 48 of the first: places count before imports
places_before_imports : set_error Strict (entry (codes "c.exe") importing 0x10000000 ∷ entry (codes "a.dll") v1 0x20008000 ∷ []) ≡ Some (errors.Fault (record { number = 44; image = 1; place = Address 0x20008000 }))
unfolding set_errors names_tests files_tests places_tests imports_errors modules_of image_tests table_tests head_tests sections_tests lookups_tests descriptors_tests resolve
places_before_imports = refl
