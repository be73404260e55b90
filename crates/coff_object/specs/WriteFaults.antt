-- The faults of an object that is to be written, by number.
use Rattle.std.specs.Prelude.{ℕ, ◌+◌, ◌^◌, ◌-◌, ◌==◌, ◌&&◌, ◌||◌, Bool, nat_lt, min, List, [], ◌∷◌, ◌++◌, length}
use Rattle.std.specs.List.{list_any}
use Rattle.pe_view.specs.declared.fault.Place.TheVariants.{Item}
use Rattle.pe_view.specs.Faults.{Test, test}
use Rattle.coff_read.specs.Names.{is_long_section_name}
use Rattle.coff_read.specs.ObjectFaults.{is_other_file}
pub use Rattle.coff_read.specs.Form.{is_bad_raw, is_bad_section, is_bad_number, is_bad_symbol}
use Rattle.coff_read.specs.Records.{Section, Symbol, Object}
use Rattle.coff_read.specs.Strings.{offset_of}
use Rattle.coff_object.specs.Written.{strings_of, records_of, canon}

-- a row of the table: a number, an item's index, and the condition
abbrev pub of_item : ℕ → ℕ → Bool → Test
of_item number k stands = test number 0 (Item (min k (2 ^ 32 - 1))) stands

-- a row for each item, from index k on
abbrev pub each_item : {X : Type 0} → ℕ → (X → Bool) → ℕ → List X → List Test
each_item number stands k [] = []
each_item number stands k (x ∷ xs) = of_item number k (stands x) ∷ each_item number stands (k + 1) xs

abbrev pub has_zero : List ℕ → Bool
has_zero name = list_any (λ byte. byte == 0) name

-- the section's name is in the string table, at an offset of more than seven digits
abbrev pub is_far : List (List ℕ) → Section → Bool
is_far strings s = is_long_section_name s.name && nat_lt 9999999 (offset_of strings s.name)

abbrev pub has_many_relocations : Section → Bool
has_many_relocations s = nat_lt 65534 (length s.relocations)

-- the object does not fit the format: its values don't fit the fields, or would be read back differently
abbrev pub is_bad_object : Object → Bool
is_bad_object o =
    nat_lt 65535 (length o.optional)
    || (nat_lt 65535 (length o.sections)
    || (is_other_file (canon o)
    || (list_any (is_bad_section (records_of o.symbols)) o.sections || list_any (is_bad_symbol (length o.sections)) o.symbols)))

-- fault 81, of each name
abbrev pub name_tests : Object → List Test
name_tests o =
    each_item 81 (λ (s : Section). has_zero s.name) 0 o.sections
    ++ each_item 81 (λ (s : Symbol). has_zero s.name) (length o.sections) o.symbols

-- faults 82 and 83, of each section
abbrev pub section_tests : Object → List Test
section_tests o = each_item 82 (is_far (strings_of o)) 0 o.sections ++ each_item 83 has_many_relocations 0 o.sections

-- faults 84 and 85
abbrev pub form_tests : Object → List Test
form_tests o = of_item 84 0 (nat_lt (2 ^ 32 - 1) (length (canon o))) ∷ of_item 85 0 (is_bad_object o) ∷ []

-- faults 81 to 85
unfoldable pub write_tests : Object → List Test
write_tests o = name_tests o ++ (section_tests o ++ form_tests o)
