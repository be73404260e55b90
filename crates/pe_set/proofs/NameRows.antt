-- Names of modules by the definitions, as examples.
use Rattle.std.proofs.Common.{◌≡◌, ℕ, ◌+◌, ◌/◌, ◌%◌, true, false, List, [], ◌∷◌, Some, None, map, refl, codes}
use Rattle.std.specs.List.{range_with_len}
use Rattle.pe_view.specs.declared.fault.Place.TheVariants.{Item}
use Rattle.pe_view.specs.Faults.{first_standing}
use Rattle.pe_set.specs.Set.{Entry, same_name, forwarded_name}
use Rattle.pe_set.specs.SetFaults.{name_tests, names_tests}

-- ---- which names match
-- the case of ASCII letters does not count
other_case : same_name (codes "A.Dll") (codes "a.dLL") ≡ true
other_case = refl

-- another letter
other_name : same_name (codes "a.dll") (codes "b.dll") ≡ false
other_name = refl

-- the whole of a name counts
longer_name : same_name (codes "a.dll") (codes "a.dll.dll") ≡ false
longer_name = refl

-- the case of other letters counts: these are Ä and ä in Latin-1
other_case_past_ascii : same_name (0xc4 ∷ []) (0xe4 ∷ []) ≡ false
other_case_past_ascii = refl

-- bytes next to the letters have no case, though they too are 32 apart
around_the_letters : map (λ byte. same_name (byte ∷ []) ((byte + 32) ∷ [])) (0x40 ∷ 0x41 ∷ 0x5a ∷ 0x5b ∷ []) ≡ false ∷ true ∷ true ∷ false ∷ []
around_the_letters = refl

-- ---- the module that a forwarder names
-- `.dll` is appended if there is no dot
without_dot : forwarded_name (codes "b") ≡ codes "b.dll"
without_dot = refl

-- a name with a dot remains, whatever comes after the dot
with_dot : forwarded_name (codes "b.x") ≡ codes "b.x"
with_dot = refl

-- a dot at the end is a dot too
with_last_dot : forwarded_name (codes "b.") ≡ codes "b."
with_last_dot = refl

-- ---- faults 41 and 42
-- an entry without a file
abbrev entry : List ℕ → Entry
entry name = record { name = name; file = []; base = 0 }

-- so many entries with different names: names are of two bytes, and none is a letter
abbrev entries : ℕ → List Entry
entries n = map (λ k. entry (k / 32 ∷ k % 32 ∷ [])) (range_with_len 0 n)

-- 256 entries
as_many_as_may_be : first_standing (names_tests (entries 256)) ≡ None
unfolding names_tests
as_many_as_may_be = refl

-- the fault is that of the first entry too many
one_too_many : first_standing (names_tests (entries 257)) ≡ Some (record { number = 41; image = 256; place = Item 256 })
unfolding names_tests
one_too_many = refl

-- number 256 is tested for 41 before its name is
too_many_before_twice : first_standing (name_tests (entry [] ∷ []) 256 (entry [])) ≡ Some (record { number = 41; image = 256; place = Item 256 })
too_many_before_twice = refl

-- number 255 is not one too many
last_of_256 : first_standing (name_tests (entries 256) 255 (entry (codes "a.dll"))) ≡ None
last_of_256 = refl

-- two names that match have the number of the later entry
twice : first_standing (names_tests (entry (codes "a.dll") ∷ entry (codes "A.DLL") ∷ [])) ≡ Some (record { number = 42; image = 1; place = Item 1 })
unfolding names_tests
twice = refl

-- an entry is compared with all before it
twice_apart : first_standing (names_tests (entry (codes "a.dll") ∷ entry (codes "b.dll") ∷ entry (codes "A.DLL") ∷ [])) ≡ Some (record { number = 42; image = 2; place = Item 2 })
unfolding names_tests
twice_apart = refl
