-- Words of a command line as strings.
use Rattle.std.specs.Prelude.{◌≡◌, ◌++◌, ℕ, zero, suc, ◌+◌, ◌-◌, ◌*◌, ◌%◌, List, [], ◌∷◌}

-- a byte that is not part of UTF-8, given the two bytes of the character of its number, U+0080 to U+00FF
abbrev pub marked_byte : ℕ → ℕ → ℕ
marked_byte lead trail = (trail + (lead - 0xc2) * 64 % 256) % 256

-- the bytes of a word, given those of its string
unfoldable pub word_bytes : List ℕ → List ℕ
word_bytes [] = []
word_bytes (byte ∷ []) = byte ∷ []
word_bytes (byte ∷ next ∷ []) = byte ∷ next ∷ []
word_bytes (zero ∷ lead ∷ trail ∷ rest) = marked_byte lead trail ∷ word_bytes rest
word_bytes (suc b ∷ lead ∷ trail ∷ rest) = suc b ∷ word_bytes (lead ∷ trail ∷ rest)

-- a string is that of these bytes, whatever comes after it
abbrev pub Spells : List ℕ → List ℕ → Type 0
Spells string bytes = (more : List ℕ) → word_bytes (string ++ more) ≡ bytes ++ word_bytes more
