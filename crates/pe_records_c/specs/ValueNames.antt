-- The names of values and flags, by what they are of.
use Rattle.std.specs.Prelude.{ℕ, ◌==◌, ◌^◌, nat_lt, List, Option, None, if◌then◌else◌}
use Rattle.pe_head.specs.Names.{name_in, machine_names, subsystem_names, characteristic_names, dll_characteristic_names, section_flag_names, directory_names}

-- a value of 16 bits
abbrev pub narrow_name : List (ℕ × List ℕ) → ℕ → Option (List ℕ)
narrow_name names value = if nat_lt value (2 ^ 16) then name_in names value else None

-- a flag of a section, or a directory
abbrev pub wide_name : ℕ → ℕ → Option (List ℕ)
wide_name kind value = if kind == 4 then name_in section_flag_names value else (if kind == 5 then name_in directory_names value else None)

-- a flag of a COFF file header, or of DllCharacteristics, or one of these
abbrev pub flag_name : ℕ → ℕ → Option (List ℕ)
flag_name kind value = if kind == 2 then name_in characteristic_names value else (if kind == 3 then name_in dll_characteristic_names value else wide_name kind value)

-- of kind 0 a machine, of 1 a subsystem, or one of these; a value without a name has none, nor has any of another kind
abbrev pub value_name : ℕ → ℕ → Option (List ℕ)
value_name kind value = if kind == 0 then narrow_name machine_names value else (if kind == 1 then narrow_name subsystem_names value else flag_name kind value)
