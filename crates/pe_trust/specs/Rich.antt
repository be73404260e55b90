-- The Rich header that linkers of Microsoft write between the MS-DOS program and the signature: "DanS", three words that are 0, pairs of
-- words, all exclusive-or'ed with a key; then "Rich" and the key. A word has 4 bytes, and word k begins at 4 * k.
use Rattle.std.specs.Prelude.{ℕ, zero, suc, ◌+◌, ◌-◌, ◌*◌, ◌/◌, ◌%◌, ◌^◌, ◌==◌, ◌&&◌, nat_le, min, List, length, Option, None, Some, option_map, option_and_then, bit_xor, if◌then◌else◌}
use Rattle.std.specs.Int.{w32, rotate_left}
use Rattle.pe_view.specs.Number.{num, byte_of}
use Rattle.pe_trust.specs.CheckSum.{byte_without, span}

abbrev pub word : List ℕ → ℕ → ℕ
word file k = num (byte_of file) (4 * k) 4

-- "DanS" and "Rich"
abbrev pub DANS : ℕ
DANS = 0x536e6144

abbrev pub RICH : ℕ
RICH = 0x68636952

-- the MS-DOS header has the first 16 words
abbrev pub FIRST : ℕ
FIRST = 16

-- the last k from FIRST on and below the bound for which word k, with the key, is the mark
abbrev pub last_mark : List ℕ → ℕ → ℕ → ℕ → Option ℕ
last_mark file key mark zero = None
last_mark file key mark (suc k) = if nat_le FIRST k && bit_xor (word file k) key == mark then Some k else last_mark file key mark k

-- where "Rich" is, with its key before the signature and the end of the file
abbrev pub rich_mark : List ℕ → ℕ → Option ℕ
rich_mark file pe_offset = last_mark file 0 RICH ((min pe_offset (length file) - 4) / 4)

abbrev pub key_at : List ℕ → ℕ → ℕ
key_at file mark = word file (mark + 1)

-- where "DanS" is
abbrev pub start_mark : List ℕ → ℕ → Option ℕ
start_mark file mark = last_mark file (key_at file mark) DANS mark

-- a Rich header by the words where it begins and where "Rich" is
pub record Rich : Type 0 where
  pub start : ℕ
  pub mark : ℕ
  pub key : ℕ

abbrev pub rich_from : List ℕ → ℕ → ℕ → Rich
rich_from file mark start = record { start = start; mark = mark; key = key_at file mark }

abbrev pub rich_before : List ℕ → ℕ → Option Rich
rich_before file mark = option_map (rich_from file mark) (start_mark file mark)

abbrev pub rich_of : List ℕ → ℕ → Option Rich
rich_of file pe_offset = option_and_then (rich_before file) (rich_mark file pe_offset)

-- how many pairs there are
abbrev pub pair_count : Rich → ℕ
pair_count r = (r.mark - (r.start + 4)) / 2

-- which product made how many of the objects: its number, its build, and the count
pub record Pair : Type 0 where
  pub product : ℕ
  pub build : ℕ
  pub count : ℕ

abbrev pub pair_words : List ℕ → Rich → ℕ → ℕ × ℕ
pair_words file r i = (bit_xor (word file (r.start + 4 + 2 * i)) r.key, bit_xor (word file (r.start + 4 + 2 * i + 1)) r.key)

abbrev pub pair_from : ℕ × ℕ → Pair
pair_from w = record { product = w.0 / 65536; build = w.0 % 65536; count = w.1 }

abbrev pub pair_at : List ℕ → Rich → ℕ → Pair
pair_at file r i = pair_from (pair_words file r i)

-- what the key is to be: the sum of where the header begins, of each byte before it, rotated left by its offset, but of e_lfanew at 0x3c,
-- and of the first word of each pair, rotated left by the second
abbrev pub rotated : ℕ × ℕ → ℕ
rotated w = rotate_left w32 w.0 w.1

abbrev pub bytes_sum : List ℕ → ℕ → ℕ
bytes_sum file count = span (λ i. rotate_left w32 (byte_without file 0x3c i) i) 0 count

abbrev pub pairs_sum : List ℕ → Rich → ℕ → ℕ
pairs_sum file r count = span (λ i. rotated (pair_words file r i)) 0 count

abbrev pub rich_sum : List ℕ → Rich → ℕ
rich_sum file r = (4 * r.start + bytes_sum file (4 * r.start) + pairs_sum file r (pair_count r)) % 2 ^ 32
