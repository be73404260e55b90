-- A file with numbers written into it.
use Rattle.std.specs.Prelude.{ℕ, ◌-◌, Bool, find, List, ◌∷◌, length, map, Option, None, Some}
use Rattle.std.specs.List.{range_with_len}
use Rattle.pe_view.specs.Number.{byte_of, digit, is_in}
use Rattle.pe_head.specs.declared.headers.Headers.{Headers}
use Rattle.pe_head.specs.Optional.{image_base_width}
use Rattle.pe_layout.specs.Image.{LaidOut, image_from}
use Rattle.pe_tables.specs.Fixups.{width_of, fixups_of}
use Rattle.pe_tables.specs.Relocated.{shifted}
use Rattle.pe_tables.specs.declared.fixups.Fixup.{Fixup}
use Rattle.pe_write.specs.Rebase.{place_of, image_base_place, check_sum_place}

-- the lowest `width` bytes of a value, the lowest first, at an offset
pub record Write : Type 0 where
  pub offset : ℕ
  pub width : ℕ
  pub value : ℕ

abbrev pub covers : ℕ → Write → Bool
covers o w = is_in w.offset w.width o

abbrev pub byte_by : List ℕ → ℕ → Option Write → ℕ
byte_by file o None = byte_of file o
byte_by file o (Some w) = digit w.value (o - w.offset)

-- the byte at an offset: of the first write that covers it, or else of the file
abbrev pub byte_with : List Write → List ℕ → ℕ → ℕ
byte_with ws file o = byte_by file o (find (covers o) ws)

-- the whole file, with its length unchanged
abbrev pub with_writes : List Write → List ℕ → List ℕ
with_writes ws file = map (byte_with ws file) (range_with_len 0 (length file))

abbrev pub image_base_write : Headers → ℕ → Write
image_base_write h base = record { offset = image_base_place h; width = image_base_width h.magic; value = base }

abbrev pub check_sum_write : Headers → Write
check_sum_write h = record { offset = check_sum_place h; width = 4; value = 0 }

-- a field as relocated to the base
abbrev pub field_write : Headers → LaidOut → ℕ → Fixup → Write
field_write h i base f = record { offset = place_of h f; width = width_of f.kind; value = shifted i base f }

-- the writes: the base to ImageBase, 0 to CheckSum, and every fixup's field
abbrev pub rebase_writes : Headers → LaidOut → ℕ → List Write
rebase_writes h i base = image_base_write h base ∷ check_sum_write h ∷ map (field_write h i base) (fixups_of i)

-- the file of an image with these headers, for the base
abbrev pub rebased_from : Headers → List ℕ → ℕ → List ℕ
rebased_from h file base = with_writes (rebase_writes h (image_from 0 h file) base) file
