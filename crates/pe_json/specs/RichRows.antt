-- The Rich header of an image's file in a line of JSON.
use Rattle.std.specs.Prelude.{ℕ, ◌*◌, ◌==◌, List, [], ◌∷◌, ◌++◌, codes, map, Option, None, Some}
use Rattle.std.specs.List.{range_with_len}
use Rattle.pe_trust.specs.Rich.{Rich, Pair, pair_at, pair_count, rich_of, rich_sum}
use Rattle.pe_json.specs.JsonText.{member, object, list, number, boolean}

abbrev pub pair_row : Pair → List ℕ
pair_row p = object (number (codes "product") p.product ∷ number (codes "build") p.build ∷ number (codes "count") p.count ∷ [])

abbrev pub pair_rows : List ℕ → Rich → List (List ℕ)
pair_rows file r = map (λ i. pair_row (pair_at file r i)) (range_with_len 0 (pair_count r))

-- its key, and whether that is the sum of what comes before it
unfoldable pub key_members : List ℕ → Rich → List (List ℕ)
key_members file r = number (codes "key") r.key ∷ member (codes "fits") (boolean (r.key == rich_sum file r)) ∷ []

unfoldable pub pairs_member : List (List ℕ) → List (List ℕ)
pairs_member rows = member (codes "pairs") (list rows) ∷ []

-- the member of the header, if there is one
unfoldable pub rich_in : List ℕ → Option Rich → List (List ℕ)
rich_in file None = []
rich_in file (Some r) =
    member (codes "rich") (object (number (codes "offset") (4 * r.start) ∷ (key_members file r ++ pairs_member (pair_rows file r)))) ∷ []

abbrev pub rich_members : List ℕ → ℕ → List (List ℕ)
rich_members file pe_offset = rich_in file (rich_of file pe_offset)
