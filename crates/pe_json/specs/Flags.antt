-- The list of the flags that are set.
use Rattle.std.specs.Prelude.{ℕ, ◌^◌, ◌==◌, if◌then◌else◌, List, [], ◌∷◌, flat_map, bit_and, Option, None, Some}
use Rattle.std.specs.List.{range_with_len}
use Rattle.pe_head.specs.Names.{Names, name_in, flag_names}
use Rattle.pe_head.specs.declared.names.FlagKind.{FlagKind}
use Rattle.json.specs.Print.{quoted}
use Rattle.pe_json.specs.JsonText.{member, list}

-- a name in quotes, if there is one
abbrev pub quoted_if : Option (List ℕ) → List (List ℕ)
quoted_if None = []
quoted_if (Some text) = quoted text ∷ []

-- the name of the flag at a place, if it is set and has one
abbrev pub flag_at : Names → ℕ → ℕ → Option (List ℕ)
flag_at names flags place = if bit_and flags (2 ^ place) == 0 then None else name_in names (bit_and flags (2 ^ place))

-- the names of the flags that are set, from the lowest bit on
abbrev pub flag_items : Names → ℕ → ℕ → List (List ℕ)
flag_items names flags places = flat_map (λ place. quoted_if (flag_at names flags place)) (range_with_len 0 places)

-- the member that lists the flags of a field
abbrev pub flags_member : List ℕ → FlagKind → ℕ → List ℕ
flags_member key kind flags = member key (list (flag_items (flag_names kind) flags 32))
