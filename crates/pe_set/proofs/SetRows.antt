-- Sets of images by the definitions, as examples: their places, their searches, their bindings.
use Rattle.std.proofs.Common.{◌≡◌, ℕ, ◌+◌, ◌-◌, false, List, [], ◌∷◌, ◌++◌, Some, None, get_or, map, refl, codes}
use Rattle.std.specs.List.{range_with_len}
use Rattle.pe_view.specs.declared.fault.Fault.{Fault}
use Rattle.pe_view.specs.declared.fault.Place.TheVariants.{Rva, Address, Item}
use Rattle.pe_view.specs.Faults.{first_standing}
use Rattle.pe_head.specs.declared.optional.Magic.TheVariants.{Pe32, Pe32Plus}
use Rattle.pe_layout.specs.Image.{LaidOut}
use Rattle.pe_tables.specs.Key.{Key, Ordinal, Name, Target, Forward}
use Rattle.pe_tables.specs.Key as keys
use Rattle.pe_tables.specs.Imports.{Import}
use Rattle.pe_set.specs.Set.{Module, named, rebased}
use Rattle.pe_set.specs.Search.{resolve}
use Rattle.pe_set.specs.SearchEnds.{hop, after}
use Rattle.pe_set.specs.Bindings.{bindings_of}
use Rattle.pe_set.specs.SetFaults.{placing_tests, places_tests}
use Rattle.pe_set.specs.SetErrors.{imports_errors, first_error}
use Rattle.pe_set.specs.declared.error.MapError.TheVariants as errors
use Rattle.pe_set.specs.declared.entry.Policy.TheVariants.{Strict, Known}
use Rattle.pe_set.specs.declared.search.Resolution.TheVariants.{Bound, Missing, Unknown, Endless}

-- an image of 0x3000 bytes, of which those from an RVA on are these
abbrev image : ℕ → ℕ → List ℕ → ℕ → LaidOut
image number at bytes image_base = record {
  number = number;
  size = 0x3000;
  byte = λ rva. get_or bytes (rva - at) 0;
  raw_left = λ _. 0;
  text = λ _. None;
  directory = λ _. None;
  slot_width = 4;
  image_base = image_base;
  is_stripped = false;
}

-- a PE32 image with tables, at a base
abbrev with_tables : List ℕ → ℕ → LaidOut → List (ℕ × Target) → List (List ℕ × Target) → List Import → Module
with_tables name base image ordinals names imports =
    record { name = name; base = base; magic = Pe32; image = image; exports = record { ordinals = ordinals; names = names; name_ordinals = [] }; imports = imports; fixups = [] }

-- `a.dll` exports ordinal 1, which is also `f`: it forwards both to ordinal 7 of `b`
abbrev forwarding : Module
forwarding = with_tables (codes "a.dll") 0x10000000 (image 0 0 [] 0x10000000) ((1, Forward (codes "b") (Ordinal 7)) ∷ []) ((codes "f", Forward (codes "b") (Ordinal 7)) ∷ []) []

-- `b.dll` exports ordinals 5 and 7
abbrev exporting : Module
exporting = with_tables (codes "b.dll") 0x20000000 (image 1 0 [] 0x20000000) ((5, keys.Rva 0x1004) ∷ (7, keys.Rva 0x1010) ∷ []) [] []

-- `c.exe` imports by these keys of these modules, each with a slot
abbrev importing : List Import → Module
importing imports = with_tables (codes "c.exe") 0x400000 (image 2 0x1030 (0x38 ∷ 0x10 ∷ []) 0x400000) [] [] imports

-- an import by a key of a module, with its slot
abbrev import : List ℕ → Key → ℕ → Import
import name key slot = record { module_name = name; key = key; slot = slot }

-- it imports `f` from `A.DLL`
abbrev importing_f : Module
importing_f = importing (import (codes "A.DLL") (Name (codes "f")) 0x1030 ∷ [])

-- all three
abbrev three : List Module
three = forwarding ∷ exporting ∷ importing_f ∷ []

-- ---- searches
-- a name finds an image without regard to its case
found_in_other_case : named three (codes "B.DLL") ≡ Some 1
found_in_other_case = refl

-- one hop leads to the module and the key of a forwarder
one_hop : hop three (codes "A.DLL", Name (codes "f")) ≡ Some (codes "b.dll", Ordinal 7)
one_hop = refl

-- no second one leads on from an RVA
no_second_hop : after 2 three (codes "A.DLL", Name (codes "f")) ≡ None
no_second_hop = refl

-- without a hop
found : resolve three (codes "b.dll") (Ordinal 5) ≡ Bound 1 0x1004
unfolding resolve
found = refl

-- it ends at the exporter, not at the module that forwards
found_through : resolve three (codes "A.DLL") (Name (codes "f")) ≡ Bound 1 0x1010
unfolding resolve
found_through = refl

-- between the ordinals that `b.dll` exports
below_7 : resolve three (codes "b.dll") (Ordinal 6) ≡ Unknown
unfolding resolve
below_7 = refl

-- below the first that it exports
below_5 : resolve three (codes "b.dll") (Ordinal 4) ≡ Unknown
unfolding resolve
below_5 = refl

-- case matters in the names of exports
export_in_other_case : resolve three (codes "a.dll") (Name (codes "F")) ≡ Unknown
unfolding resolve
export_in_other_case = refl

-- `.dll` is appended to what forwarders name, not to what imports name
import_without_dot : resolve three (codes "b") (Ordinal 5) ≡ Missing
unfolding resolve
import_without_dot = refl

-- a forwarder leaves the set
forwarded_out : resolve (forwarding ∷ importing_f ∷ []) (codes "A.DLL") (Name (codes "f")) ≡ Missing
unfolding resolve
forwarded_out = refl

-- a forwarder names a key that is not exported
forwarded_wrong : resolve (with_tables (codes "a.dll") 0x10000000 (image 0 0 [] 0x10000000) ((1, Forward (codes "b") (Ordinal 6)) ∷ []) [] [] ∷ exporting ∷ []) (codes "a.dll") (Ordinal 1) ≡ Unknown
unfolding resolve
forwarded_wrong = refl

-- ---- how far a search goes
-- `f.dll` forwards each of its ordinals below n + 1 to the next, and ordinal n + 1 is this
abbrev chain : ℕ → Target → Module
chain n last = with_tables (codes "f.dll") 0x20000000 (image 0 0 [] 0x20000000) (map (λ k. (k, Forward (codes "f") (Ordinal (k + 1)))) (range_with_len 1 n) ++ (n + 1, last) ∷ []) [] []

-- `c.exe` imports its ordinal 1
abbrev importing_1 : Module
importing_1 = importing (import (codes "F.DLL") (Ordinal 1) 0x1030 ∷ [])

-- to an RVA after 65 forwarders
far : resolve (chain 65 (keys.Rva 0x1004) ∷ []) (codes "F.DLL") (Ordinal 1) ≡ Bound 0 0x1004
unfolding resolve
far = refl

-- to a module that is not there, and to an export that is not there
far_missing : resolve (chain 65 (Forward (codes "g") (Ordinal 1)) ∷ []) (codes "F.DLL") (Ordinal 1) ≡ Missing
unfolding resolve
far_missing = refl

far_unknown : resolve (chain 65 (Forward (codes "f") (Ordinal 67)) ∷ []) (codes "F.DLL") (Ordinal 1) ≡ Unknown
unfolding resolve
far_unknown = refl

-- the last leads back to ordinal 33: 32 hops lead to the cycle, which has 34
long_cycle : resolve (chain 65 (Forward (codes "f") (Ordinal 33)) ∷ []) (codes "F.DLL") (Ordinal 1) ≡ Endless 34
unfolding resolve
long_cycle = refl

-- a cycle of one after 65
short_cycle : resolve (chain 65 (Forward (codes "f") (Ordinal 66)) ∷ []) (codes "F.DLL") (Ordinal 1) ≡ Endless 1
unfolding resolve
short_cycle = refl

-- ---- bindings
-- through one forwarder
bound_through : bindings_of three ≡ record { image = 2; slot = 0x1030; exporter = 1; rva = 0x1010 } ∷ []
unfolding bindings_of resolve
bound_through = refl

-- through 65
bound_after_65 : bindings_of (chain 65 (keys.Rva 0x1004) ∷ importing_1 ∷ []) ≡ record { image = 1; slot = 0x1030; exporter = 0; rva = 0x1004 } ∷ []
unfolding bindings_of resolve
bound_after_65 = refl

-- a slot whose module is not in the set is not bound, the others are, in the order of the imports
the_others_are_bound : bindings_of (exporting ∷ importing (import (codes "b.dll") (Ordinal 7) 0x1038 ∷ import (codes "d.dll") (Ordinal 1) 0x1030 ∷ import (codes "B.dll") (Ordinal 5) 0x1034 ∷ []) ∷ [])
    ≡ record { image = 1; slot = 0x1038; exporter = 0; rva = 0x1010 } ∷ record { image = 1; slot = 0x1034; exporter = 0; rva = 0x1004 } ∷ []
unfolding bindings_of resolve
the_others_are_bound = refl

-- an image may import from itself
bound_to_itself : bindings_of (with_tables (codes "s.dll") 0x20000000 (image 0 0 [] 0x20000000) ((7, keys.Rva 0x1010) ∷ []) [] (import (codes "S.DLL") (Ordinal 7) 0x2030 ∷ []) ∷ [])
    ≡ record { image = 0; slot = 0x2030; exporter = 0; rva = 0x1010 } ∷ []
unfolding bindings_of resolve
bound_to_itself = refl

-- by image
bound_by_image : bindings_of (importing (import (codes "b.dll") (Ordinal 7) 0x1030 ∷ []) ∷ exporting ∷ with_tables (codes "d.exe") 0x500000 (image 2 0 [] 0x500000) [] [] (import (codes "b.dll") (Ordinal 5) 0x1028 ∷ []) ∷ [])
    ≡ record { image = 0; slot = 0x1030; exporter = 1; rva = 0x1010 } ∷ record { image = 2; slot = 0x1028; exporter = 1; rva = 0x1004 } ∷ []
unfolding bindings_of resolve
bound_by_image = refl

-- bases do not matter for bindings
bound_at_other_bases : bindings_of (rebased (0x30000000 ∷ 0x40000000 ∷ []) three) ≡ bindings_of three
unfolding bindings_of resolve
bound_at_other_bases = refl

-- ---- errors of imports
-- a fault at a slot
abbrev fault : ℕ → ℕ → ℕ → Fault
fault number image slot = record { number = number; image = image; place = Rva slot }

-- none, if all searches end at an RVA
all_bound : imports_errors Strict three ≡ []
unfolding imports_errors resolve
all_bound = refl

-- 48: without `b.dll`
not_there : first_error (imports_errors Strict (forwarding ∷ importing_f ∷ [])) ≡ Some (errors.Fault (fault 48 1 0x1030))
unfolding imports_errors resolve
not_there = refl

-- that is no fault if unknown modules are left unbound
left_alone : imports_errors Known (forwarding ∷ importing_f ∷ []) ≡ []
unfolding imports_errors resolve
left_alone = refl

-- and such a slot is not bound
left_unbound : bindings_of (forwarding ∷ importing_f ∷ []) ≡ []
unfolding bindings_of resolve
left_unbound = refl

-- 48: alone
all_alone : first_error (imports_errors Strict (importing_f ∷ [])) ≡ Some (errors.Fault (fault 48 0 0x1030))
unfolding imports_errors resolve
all_alone = refl

-- `c.exe` imports an ordinal that `b.dll` does not export
abbrev importing_6 : Module
importing_6 = importing (import (codes "b.dll") (Ordinal 6) 0x1030 ∷ [])

-- 49: the module is there and the export is not
not_exported : first_error (imports_errors Strict (exporting ∷ importing_6 ∷ [])) ≡ Some (errors.Fault (fault 49 1 0x1030))
unfolding imports_errors resolve
not_exported = refl

-- and also if unknown modules are left unbound: this module is known
not_exported_known : first_error (imports_errors Known (exporting ∷ importing_6 ∷ [])) ≡ Some (errors.Fault (fault 49 1 0x1030))
unfolding imports_errors resolve
not_exported_known = refl

-- 49: also after 65 forwarders
not_exported_far : first_error (imports_errors Strict (chain 65 (Forward (codes "f") (Ordinal 67)) ∷ importing_1 ∷ [])) ≡ Some (errors.Fault (fault 49 1 0x1030))
unfolding imports_errors resolve
not_exported_far = refl

-- `a.dll` forwards `f` to itself
abbrev circling : Module
circling = with_tables (codes "a.dll") 0x10000000 (image 0 0 [] 0x10000000) [] ((codes "f", Forward (codes "a") (Name (codes "f"))) ∷ []) []

-- 50: a cycle of one
endless : first_error (imports_errors Known (circling ∷ importing_f ∷ [])) ≡ Some (errors.Cycle (fault 50 1 0x1030) 1)
unfolding imports_errors resolve
endless = refl

cycle_of_one : resolve (circling ∷ importing_f ∷ []) (codes "A.DLL") (Name (codes "f")) ≡ Endless 1
unfolding resolve
cycle_of_one = refl

-- the same of `a.dll` and `b.dll`, whose ordinal 7 leads back
abbrev circling_by_two : List Module
circling_by_two = forwarding ∷ with_tables (codes "b.dll") 0x20000000 (image 1 0 [] 0x20000000) ((7, Forward (codes "a") (Name (codes "f"))) ∷ []) [] [] ∷ importing_f ∷ []

endless_by_two : first_error (imports_errors Strict circling_by_two) ≡ Some (errors.Cycle (fault 50 2 0x1030) 2)
unfolding imports_errors resolve
endless_by_two = refl

cycle_of_two : resolve circling_by_two (codes "A.DLL") (Name (codes "f")) ≡ Endless 2
unfolding resolve
cycle_of_two = refl

-- a module that is met twice by two keys is no cycle
met_twice : resolve (with_tables (codes "a.dll") 0x10000000 (image 0 0 [] 0x10000000) ((1, Forward (codes "b") (Ordinal 1)) ∷ (2, keys.Rva 0x1004) ∷ []) [] []
    ∷ with_tables (codes "b.dll") 0x20000000 (image 1 0 [] 0x20000000) ((1, Forward (codes "a") (Ordinal 2)) ∷ []) [] [] ∷ []) (codes "a.dll") (Ordinal 1) ≡ Bound 0 0x1004
unfolding resolve
met_twice = refl

-- the first import with a fault counts, whatever the fault's number
first_import : first_error (imports_errors Strict (exporting ∷ importing (import (codes "b.dll") (Ordinal 5) 0x1030 ∷ import (codes "b.dll") (Ordinal 6) 0x1034 ∷ import (codes "d.dll") (Ordinal 5) 0x1038 ∷ []) ∷ []))
    ≡ Some (errors.Fault (fault 49 1 0x1034))
unfolding imports_errors resolve
first_import = refl

-- ---- faults of places
-- none, where images are apart
all_fit : first_standing (places_tests three) ≡ None
unfolding places_tests
all_fit = refl

-- `b.dll` as a PE32+ image
abbrev plus : Module
plus = record exporting { magic = Pe32Plus; base = 0x180000000 }

-- 43: a PE32+ image after a PE32 one
other_magic : first_standing (places_tests (forwarding ∷ plus ∷ [])) ≡ Some (record { number = 43; image = 1; place = Item 1 })
unfolding places_tests
other_magic = refl

-- 43 compares with the first image, not with the one before
magic_of_the_first : first_standing (placing_tests (forwarding ∷ plus ∷ exporting ∷ []) 2 exporting) ≡ None
magic_of_the_first = refl

-- only PE32+ images
all_plus : first_standing (places_tests (record forwarding { magic = Pe32Plus } ∷ plus ∷ [])) ≡ None
unfolding places_tests
all_plus = refl

-- 47 has the number of the later of two images
overlapping : first_standing (places_tests (exporting ∷ exporting ∷ [])) ≡ Some (record { number = 47; image = 1; place = Address 0x20000000 })
unfolding places_tests
overlapping = refl

-- all faults of an image count before those of the next: 44 of the second before 43 of the third
by_image : first_standing (places_tests (forwarding ∷ record exporting { base = 0x20008000 } ∷ plus ∷ [])) ≡ Some (record { number = 44; image = 1; place = Address 0x20008000 })
unfolding places_tests
by_image = refl

-- and 43 comes before the others of one image
magic_before_base : first_standing (places_tests (forwarding ∷ record plus { base = 0x180008000 } ∷ [])) ≡ Some (record { number = 43; image = 1; place = Item 1 })
unfolding places_tests
magic_before_base = refl
