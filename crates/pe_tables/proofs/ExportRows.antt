-- Export tables by the definitions, as examples.
use Rattle.std.proofs.Common.{◌≡◌, ℕ, ◌-◌, false, List, [], ◌∷◌, ◌++◌, Some, None, get_or, drop, refl}
use Rattle.std.specs.Prelude.{codes}
use Rattle.pe_view.specs.declared.fault.Place.TheVariants as place
use Rattle.pe_view.specs.Faults.{first_standing}
use Rattle.pe_view.specs.Text.{zero_ended}
use Rattle.pe_layout.specs.Image.{LaidOut}
use Rattle.pe_tables.specs.Key.{Ordinal, Name, Rva, Forward}
use Rattle.pe_tables.specs.Exports.{exports_of, target_at}
use Rattle.pe_tables.specs.ExportFaults.{export_tests, each_tests}
use Rattle.pe_tables.specs.Forwarder.{forwarder_of}

-- an image of 0x3000 bytes with these at 0x1020, as its export directory
abbrev table : List ℕ → LaidOut
table bytes = record {
  number = 0;
  size = 0x3000;
  byte = λ rva. get_or bytes (rva - 0x1020) 0;
  raw_left = λ _. 0;
  text = λ rva. zero_ended (drop (rva - 0x1020) bytes);
  directory = λ _. Some (record { rva = 0x1020; size = 0x60 });
  slot_width = 4;
  image_base = 0x20000000;
  is_stripped = false;
}

-- flags, time stamp, versions, name RVA; the ordinal base and how many entries and names; where the tables are
abbrev directory : ℕ → ℕ → ℕ → ℕ → ℕ → ℕ → List ℕ
directory base entries names addresses pointers ordinals =
    0 ∷ 0 ∷ 0 ∷ 0 ∷ 0 ∷ 0 ∷ 0 ∷ 0 ∷ 0 ∷ 0 ∷ 0 ∷ 0 ∷ 0 ∷ 0 ∷ 0 ∷ 0
    ∷ base ∷ 0 ∷ 0 ∷ 0 ∷ entries ∷ 0 ∷ 0 ∷ 0 ∷ names ∷ 0 ∷ 0 ∷ 0
    ∷ addresses ∷ 0x10 ∷ 0 ∷ 0 ∷ pointers ∷ 0x10 ∷ 0 ∷ 0 ∷ ordinals ∷ 0x10 ∷ 0 ∷ 0 ∷ []

-- ordinals 5 and 7, and the name `g` of ordinal 7; entry 0's value, and the entry of the name
abbrev three_entries : ℕ → ℕ → ℕ → LaidOut
three_entries low high named = table (
    directory 5 3 1 0x48 0x54 0x58
    ++ (low ∷ high ∷ 0 ∷ 0 ∷ 0 ∷ 0 ∷ 0 ∷ 0 ∷ 0x10 ∷ 0x10 ∷ 0 ∷ 0 ∷ 0x5a ∷ 0x10 ∷ 0 ∷ 0 ∷ named ∷ 0 ∷ 0x67 ∷ 0 ∷ []))

-- one forwarder, of ordinal 1 and of the name `f`
abbrev a_forwarder : List ℕ → LaidOut
a_forwarder text = table (
    directory 1 1 1 0x48 0x4c 0x50
    ++ ((0x60 ∷ 0x10 ∷ 0 ∷ 0 ∷ 0x54 ∷ 0x10 ∷ 0 ∷ 0 ∷ 0 ∷ 0 ∷ 0 ∷ 0 ∷ 0x66 ∷ 0 ∷ 0x61 ∷ 0x2e ∷ 0x64 ∷ 0x6c ∷ 0x6c ∷ 0 ∷ 0 ∷ 0 ∷ 0 ∷ 0 ∷ [])
    ++ (text ++ 0 ∷ [])))

two_ordinals_and_a_name : exports_of (three_entries 0x04 0x10 2) ≡ record {
  ordinals = (5, Rva 0x1004) ∷ (7, Rva 0x1010) ∷ [];
  names = (codes "g", Rva 0x1010) ∷ [];
  name_ordinals = 7 ∷ [];
}
two_ordinals_and_a_name = refl

no_ordinal_6 : target_at (exports_of (three_entries 0x04 0x10 2)) (Ordinal 6) ≡ None
no_ordinal_6 = refl

accepted : first_standing (export_tests (three_entries 0x04 0x10 2)) ≡ None
unfolding each_tests
accepted = refl

-- the entry of the name is 0
a_name_of_nothing : exports_of (three_entries 0x04 0x10 1) ≡ record { ordinals = (5, Rva 0x1004) ∷ (7, Rva 0x1010) ∷ []; names = []; name_ordinals = [] }
a_name_of_nothing = refl

no_such_entry : first_standing (export_tests (three_entries 0x04 0x10 3)) ≡ Some (record { number = 20; image = 0; place = place.Rva 0x1058 })
unfolding each_tests
no_such_entry = refl

past_the_image : first_standing (export_tests (three_entries 0x00 0x30 2)) ≡ Some (record { number = 21; image = 0; place = place.Rva 0x1048 })
unfolding each_tests
past_the_image = refl

the_last_byte : first_standing (export_tests (three_entries 0xff 0x2f 2)) ≡ None
unfolding each_tests
the_last_byte = refl

forwards : exports_of (a_forwarder (codes "b.#7")) ≡ record {
  ordinals = (1, Forward (codes "b") (Ordinal 7)) ∷ [];
  names = (codes "f", Forward (codes "b") (Ordinal 7)) ∷ [];
  name_ordinals = 1 ∷ [];
}
forwards = refl

forwards_nowhere : first_standing (export_tests (a_forwarder (codes "b."))) ≡ Some (record { number = 22; image = 0; place = place.Rva 0x1048 })
unfolding each_tests
forwards_nowhere = refl

the_last_dot_splits : forwarder_of (codes "b.x.dll.f") ≡ Some (Forward (codes "b.x.dll") (Name (codes "f")))
the_last_dot_splits = refl

zeros_lead : forwarder_of (codes "b.#007") ≡ Some (Forward (codes "b") (Ordinal 7))
zeros_lead = refl

the_greatest_ordinal : forwarder_of (codes "b.#65535") ≡ Some (Forward (codes "b") (Ordinal 65535))
the_greatest_ordinal = refl

too_great : forwarder_of (codes "b.#65536") ≡ None
too_great = refl

no_digits : forwarder_of (codes "b.#") ≡ None
no_digits = refl

not_all_digits : forwarder_of (codes "b.#7x") ≡ None
not_all_digits = refl

no_dot : forwarder_of (codes "b") ≡ None
no_dot = refl

no_module : forwarder_of (codes ".f") ≡ None
no_module = refl

a_name_with_a_hash : forwarder_of (codes "b.a#1") ≡ Some (Forward (codes "b") (Name (codes "a#1")))
a_name_with_a_hash = refl
