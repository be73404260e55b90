-- Forwarders: exports of an image that are those of another module ("PE Format", Export Address Table).
use Rattle.std.specs.Prelude.{◌≡◌, ◌≢◌, ◌++◌, All, true, ℕ, ◌+◌, ◌-◌, ◌*◌, Bool, ◌&&◌, ◌==◌, List, [], ◌∷◌, Option, Some, None, nat_lt, nat_le, if◌then◌else◌, option_map, option_and_then, length}
use Rattle.std.specs.List.{list_all}
use Rattle.pe_head.specs.declared.directory.Directory.{Directory}
use Rattle.pe_layout.specs.Image.{LaidOut}
use Rattle.pe_tables.specs.Key.{Key, Ordinal, Name, Target, Forward}

-- an address inside the export directory itself is that of a forwarder string
abbrev pub is_forwarder : Directory → ℕ → Bool
is_forwarder d rva = nat_le d.rva rva && nat_lt rva (d.rva + d.size)

abbrev pub is_digit : ℕ → Bool
is_digit byte = nat_le 48 byte && nat_le byte 57

-- the number that decimal digits write, after those of another number
abbrev pub decimal_value : ℕ → List ℕ → ℕ
decimal_value n [] = n
decimal_value n (digit ∷ digits) = decimal_value (n * 10 + (digit - 48)) digits

-- an ordinal: one or more decimal digits, of a value that 16 bits hold
abbrev pub ordinal_key : List ℕ → Option Key
ordinal_key digits =
    if nat_lt 0 (length digits) && (list_all is_digit digits && nat_le (decimal_value 0 digits) 65535)
    then Some (Ordinal (decimal_value 0 digits)) else None

-- `#` and an ordinal, or else a name, which is not empty
abbrev pub key_of : List ℕ → Option Key
key_of [] = None
key_of (byte ∷ bytes) = if byte == 35 then ordinal_key bytes else Some (Name (byte ∷ bytes))

-- a string before its last dot and after it
abbrev pub at_dot : ℕ → List ℕ → Option (List ℕ × List ℕ) → Option (List ℕ × List ℕ)
at_dot byte bytes (Some sides) = Some (byte ∷ sides.0, sides.1)
at_dot byte bytes None = if byte == 46 then Some ([], bytes) else None

abbrev pub at_last_dot : List ℕ → Option (List ℕ × List ℕ)
at_last_dot [] = None
at_last_dot (byte ∷ bytes) = at_dot byte bytes (at_last_dot bytes)

-- a module, which is not empty, and a key
abbrev pub forward_to : List ℕ × List ℕ → Option Target
forward_to sides = if nat_lt 0 (length sides.0) then option_map (Forward sides.0) (key_of sides.1) else None

abbrev pub forwarder_of : List ℕ → Option Target
forwarder_of text = option_and_then forward_to (at_last_dot text)

-- the forwarder whose string is at an RVA
abbrev pub forwarder_at : LaidOut → ℕ → Option Target
forwarder_at i rva = option_and_then forwarder_of (i.text rva)

-- the string is that of a key: a name, or `#` and decimal digits that write an ordinal
abbrev pub IsKeyText : List ℕ → Key → Type 0
IsKeyText text (Name name) = text ≡ name
IsKeyText text (Ordinal ordinal) = (digits : List ℕ) × (text ≡ 35 ∷ digits) × (list_all is_digit digits ≡ true) × (decimal_value 0 digits ≡ ordinal)

-- the string is a module's name, a dot, and the string of a key, which has no dot
pub record IsForwarderText (text module_name : List ℕ) (key : Key) : Type 0 where
  pub key_text : List ℕ
  pub parts : text ≡ module_name ++ 46 ∷ key_text
  pub no_dot : All (λ (byte : ℕ). byte ≢ 46) key_text
  pub names : IsKeyText key_text key
