-- Strings as C has them, zero-terminated.
use Rattle.std.specs.Prelude.{ℕ, List, [], ◌∷◌, ◌++◌, length, take, drop}

-- a string in a buffer, cut so that a zero byte fits after it; the bytes after that are unchanged
abbrev pub line_of : List ℕ → List ℕ → List ℕ
line_of text [] = []
line_of text (byte ∷ room) = take (length room) text ++ 0 ∷ drop (length (take (length room) text)) room
