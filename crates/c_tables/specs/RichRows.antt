-- The Rich header as C has it.
use Rattle.std.specs.Prelude.{ℕ, ◌*◌, List, [], map, Option, None, Some, option_map}
use Rattle.std.specs.List.{range_with_len}
use Rattle.pe_head.specs.declared.headers.Headers.{Headers}
use Rattle.pe_trust.specs.Rich.{Pair, Rich, pair_at, pair_count, rich_of, rich_sum}
use Rattle.pe_trust.specs.declared.rich_words.RichPair.{RichPair}
use Rattle.c_tables.specs.declared.rich.RichPairRow.{RichPairRow}
use Rattle.c_tables.specs.declared.rich.RichRecord.{RichRecord}

abbrev pub rich_record : List ℕ → Rich → RichRecord
rich_record file r = record { offset = 4 * r.start; key = r.key; computed = rich_sum file r }

-- the Rich header of a file, if it has one
abbrev pub rich_told : List ℕ → Headers → Option RichRecord
rich_told file h = option_map (rich_record file) (rich_of file h.pe_offset)

abbrev pub pairs_by : List ℕ → Rich → List Pair
pairs_by file r = map (pair_at file r) (range_with_len 0 (pair_count r))

abbrev pub pairs_in : List ℕ → Option Rich → List Pair
pairs_in file None = []
pairs_in file (Some r) = pairs_by file r

-- its pairs, of a file without a Rich header none
abbrev pub rich_pairs : List ℕ → Headers → List Pair
rich_pairs file h = pairs_in file (rich_of file h.pe_offset)

abbrev pub pair_row : Pair → RichPairRow
pair_row p = record { product = p.product; build = p.build; count = p.count }

-- a pair as the code has it
abbrev pub pair_item : Pair → RichPair
pair_item p = record { product = p.product; build = p.build; count = p.count }
