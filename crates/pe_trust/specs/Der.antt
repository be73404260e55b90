-- Elements in DER (ITU-T X.690): a tag of one byte, a length, and as many bytes of content. A length is one byte below 128, or a byte
-- that says how many bytes follow, of a big-endian number.
use Rattle.std.specs.Prelude.{ℕ, ◌-◌, ◌%◌, ◌==◌, ◌&&◌, nat_lt, nat_le, List, [], ◌∷◌, length, take, drop, Option, None, Some, if◌then◌else◌}
use Rattle.byteorder.specs.Endian.{big_number}

pub record Element : Type 0 where
  pub tag : ℕ
  pub content : List ℕ
  pub rest : List ℕ

-- the element with this tag and a content of this size, if there are as many bytes
abbrev pub sized_element : ℕ → ℕ → List ℕ → Option Element
sized_element tag size behind =
    if nat_le size (length behind) then Some (record { tag = tag; content = take size behind; rest = drop size behind }) else None

-- the length has 1 to 4 bytes of its own
abbrev pub long_element : ℕ → ℕ → List ℕ → Option Element
long_element tag count behind =
    if nat_le 1 count && (nat_le count 4 && nat_le count (length behind)) then sized_element tag (big_number count (take count behind)) (drop count behind) else None

-- the first element; none if its tag has more than one byte, or its content passes the end
abbrev pub element_of : List ℕ → Option Element
element_of [] = None
element_of (tag ∷ []) = None
element_of (tag ∷ first ∷ behind) =
    if tag % 32 == 31 then None else (if nat_lt first 128 then sized_element tag first behind else long_element tag (first - 128) behind)
