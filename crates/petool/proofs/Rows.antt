-- Words and their strings: the bytes ff, 80 and e9 of names that are not UTF-8.
use Rattle.std.proofs.Common.{◌≡◌, ◌∷◌, [], refl}
use Rattle.petool.specs.WordBytes.{word_bytes}

ascii : word_bytes (0x61 ∷ 0x3d ∷ 0x62 ∷ 0x2f ∷ 0x63 ∷ []) ≡ 0x61 ∷ 0x3d ∷ 0x62 ∷ 0x2f ∷ 0x63 ∷ []
unfolding word_bytes
ascii = refl

between : word_bytes (0x61 ∷ 0 ∷ 0xc3 ∷ 0xbf ∷ 0x2f ∷ 0 ∷ 0xc2 ∷ 0x80 ∷ []) ≡ 0x61 ∷ 0xff ∷ 0x2f ∷ 0x80 ∷ []
unfolding word_bytes
between = refl

characters : word_bytes (0xc3 ∷ 0xa9 ∷ 0 ∷ 0xc3 ∷ 0xa9 ∷ 0x2e ∷ []) ≡ 0xc3 ∷ 0xa9 ∷ 0xe9 ∷ 0x2e ∷ []
unfolding word_bytes
characters = refl
