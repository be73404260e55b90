-- The public symbols of a member: those that a linker looks for in an archive.
use Rattle.std.specs.Prelude.{ℕ, ◌==◌, ◌&&◌, ◌||◌, Bool, not, List, [], ◌∷◌, ◌++◌, length, map, filter, is_none, nat_le, if◌then◌else◌}
use Rattle.pe_view.specs.Faults.{first_standing}
use Rattle.pe_view.specs.Number.{num, byte_of}
use Rattle.coff_read.specs.EitherObject.{form_in}
use Rattle.coff_read.specs.FormFaults.{object_tests}
use Rattle.coff_read.specs.FormReading.{object_of}
use Rattle.coff_read.specs.Records.{Symbol, section_number}
use Rattle.coff_archive.specs.Imports.{Import, is_import, import_tests, import_of}

-- another object defines the symbol: it has no section, and no size as a common symbol has
abbrev pub is_undefined : Symbol → Bool
is_undefined s = section_number s.section == 0 && s.value == 0

-- the second number of the auxiliary record of a weak external is that of an alias
abbrev pub is_alias : Symbol → Bool
is_alias s = nat_le 8 (length s.aux) && num (byte_of s.aux) 4 4 == 3

-- an external symbol that the object defines, or a weak external that is an alias
abbrev pub is_public : Symbol → Bool
is_public s = (s.class == 2 && not (is_undefined s)) || (s.class == 105 && is_alias s)

-- of an object of either form without a fault, in table order
abbrev pub object_names : List ℕ → List (List ℕ)
object_names bytes =
    if is_none (first_standing (object_tests (form_in bytes) bytes))
    then map (λ (s : Symbol). s.name) (filter is_public (object_of (form_in bytes) bytes).symbols)
    else []

-- `__imp_`
abbrev pub import_prefix : List ℕ
import_prefix = 95 ∷ 95 ∷ 105 ∷ 109 ∷ 112 ∷ 95 ∷ []

-- the address of what is imported; and, but for data, the code that jumps there, or the constant
abbrev pub names_of_import : Import → List (List ℕ)
names_of_import i = (import_prefix ++ i.symbol) ∷ (if i.kind == 1 then [] else i.symbol ∷ [])

-- of a short import object without a finding
abbrev pub import_names : List ℕ → List (List ℕ)
import_names bytes = if is_none (first_standing (import_tests 0 bytes)) then names_of_import (import_of bytes) else []

-- of a member with these bytes; none of what is neither
unfoldable pub public_names : List ℕ → List (List ℕ)
public_names bytes = if is_import bytes then import_names bytes else object_names bytes
