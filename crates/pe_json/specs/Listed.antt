-- Members of an object and items of a list, as code adds them: the first without a comma, the others after one.
use Rattle.std.specs.Prelude.{ℕ, Bool, true, false, List, [], ◌∷◌, ◌++◌, codes, flat_map}
use Rattle.pe_json.specs.JsonText.{with_commas}

abbrev pub is_nil : List (List ℕ) → Bool
is_nil [] = true
is_nil (t ∷ ts) = false

-- texts, each after a comma
unfoldable pub more : List (List ℕ) → List ℕ
more texts = flat_map (λ text. codes "," ++ text) texts

-- items, and whether the first of them is the list's first
abbrev pub items_text : Bool → List (List ℕ) → List ℕ
items_text true items = with_commas items
items_text false items = more items
