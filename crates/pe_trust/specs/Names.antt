-- Names (X.501; RFC 5280, 4.1.2.4): RDNSequence ::= SEQUENCE OF SET OF SEQUENCE { type OBJECT IDENTIFIER, value ANY }.
use Rattle.std.specs.Prelude.{ℕ, zero, suc, List, [], ◌∷◌, length, Option, None, Some, option_and_then, option_map, unwrap_or}
use Rattle.pe_trust.specs.Der.{Element, element_of}
use Rattle.pe_trust.specs.Signature.{SEQUENCE, SET, behind, behind_identifier, content_under}

-- 2.5.4.3, commonName
abbrev pub COMMON_NAME : List ℕ
COMMON_NAME = 0x55 ∷ 0x04 ∷ 0x03 ∷ []

-- the text of a set's first attribute, if that is a common name
abbrev pub common_name_in : List ℕ → Option (List ℕ)
common_name_in set =
    option_map (λ (e : Element). e.content) (option_and_then element_of (option_and_then (behind_identifier COMMON_NAME) (content_under SEQUENCE set)))

-- what is behind the first set
abbrev pub behind_set : List ℕ → List ℕ
behind_set sets = unwrap_or (behind SET sets) []

-- the first set, if it is one, before the rest
abbrev pub set_then : Option (List ℕ) → List (List ℕ) → List (List ℕ)
set_then None rest = []
set_then (Some set) rest = set ∷ rest

-- of the sets one behind the other, up to the first that is none, at most so many
abbrev pub sets_from : ℕ → List ℕ → List (List ℕ)
sets_from zero sets = []
sets_from (suc most) sets = set_then (content_under SET sets) (sets_from most (behind_set sets))

-- there are no more than bytes
abbrev pub sets_in : List ℕ → List (List ℕ)
sets_in sets = sets_from (length sets) sets

-- the first, if it is one, or else the other
abbrev pub or_other : Option (List ℕ) → Option (List ℕ) → Option (List ℕ)
or_other None other = other
or_other (Some name) other = Some name

-- the first common name in sets
abbrev pub first_common_name : List (List ℕ) → Option (List ℕ)
first_common_name [] = None
first_common_name (set ∷ sets) = or_other (common_name_in set) (first_common_name sets)

-- the common name in the content of a name
abbrev pub common_name_of : List ℕ → Option (List ℕ)
common_name_of name = first_common_name (sets_in name)
