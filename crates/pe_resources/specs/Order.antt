-- The order of a directory's entries ("PE Format", Resource Directory Entries): those with texts before those with ids, and each of both
-- kinds ascending. Texts are compared by their first 64 UTF-16 units.
use Rattle.std.specs.Prelude.{ℕ, zero, suc, ◌+◌, ◌-◌, Bool, true, false, nat_lt, ◌==◌, ◌&&◌, ◌||◌, if◌then◌else◌}
use Rattle.pe_layout.specs.Image.{LaidOut, number_at}
use Rattle.pe_resources.specs.Entry.{is_text, offset_of}
use Rattle.pe_resources.specs.Section.{has_name, entry_at}
use Rattle.pe_resources.specs.declared.entry.Entry.{Entry}

-- how many units the text at an offset has: none where it is not held
abbrev pub text_units : LaidOut → ℕ → ℕ → ℕ
text_units i start offset = if has_name i start offset then number_at 2 i (start + offset) else 0

-- of the `n` units at one offset and the `m` at another, the first are below the second, as far as the first `most` of both tell
unfoldable pub units_below : LaidOut → ℕ → ℕ → ℕ → ℕ → ℕ → ℕ → Bool
units_below i start zero a n b m = true
units_below i start (suc most) a n b m =
    if m == 0 then false
    else (if n == 0 then true
    else (if number_at 2 i (start + a) == number_at 2 i (start + b) then units_below i start most (a + 2) (n - 1) (b + 2) (m - 1)
    else nat_lt (number_at 2 i (start + a)) (number_at 2 i (start + b))))

-- the text at an offset is below that at another, or both begin with the same 64 units
abbrev pub is_text_below : LaidOut → ℕ → ℕ → ℕ → Bool
is_text_below i start a b = units_below i start 64 (a + 2) (text_units i start a) (b + 2) (text_units i start b)

-- an entry may come right after another
abbrev pub is_after : LaidOut → ℕ → Entry → Entry → Bool
is_after i start before e =
    if is_text e then is_text before && is_text_below i start (offset_of before.name) (offset_of e.name)
    else is_text before || nat_lt before.name e.name

-- each of so many entries after the first of the directory at an offset may come where it does
abbrev pub ascends : LaidOut → ℕ → ℕ → ℕ → Bool
ascends i start offset zero = true
ascends i start offset (suc n) = ascends i start offset n && is_after i start (entry_at i start offset n) (entry_at i start offset (suc n))

-- the first `count` entries of the directory at an offset ascend
abbrev pub is_ascending : LaidOut → ℕ → ℕ → ℕ → Bool
is_ascending i start offset count = ascends i start offset (count - 1)
