-- The kinds of files by their first bytes, as examples: the header of a big object as compilers write it (winnt.h,
-- ANON_OBJECT_HEADER_BIGOBJ), and others that differ from it in one place.
use Rattle.std.proofs.Common.{◌≡◌, ℕ, List, [], ◌∷◌, ◌++◌, Some, None, codes, take, refl}
use Rattle.pe_text.specs.FileKind.{kind_of, other_kind}
use Rattle.pe_text.specs.declared.file_beginning.FileKind.TheVariants.{Text, Object, BigObject}

-- Sig1, Sig2, Version, Machine and TimeDateStamp
abbrev front : ℕ → List ℕ
front version = 0 ∷ 0 ∷ 0xff ∷ 0xff ∷ version ∷ 0 ∷ 0x64 ∷ 0x86 ∷ 1 ∷ 2 ∷ 3 ∷ 4 ∷ []

-- ClassID, with this last byte
abbrev class : ℕ → List ℕ
class last = 0xc7 ∷ 0xa1 ∷ 0xba ∷ 0xd1 ∷ 0xee ∷ 0xba ∷ 0xa9 ∷ 0x4b ∷ 0xaf ∷ 0x20 ∷ 0xfa ∷ 0xf6 ∷ 0x6a ∷ 0xa4 ∷ 0xdc ∷ last ∷ []

big : kind_of (front 2 ++ class 0xb8) ≡ Some BigObject
big = refl

longer : kind_of (front 3 ++ (class 0xb8 ++ 9 ∷ [])) ≡ Some BigObject
longer = refl

other_version : kind_of (front 1 ++ class 0xb8) ≡ None
other_version = refl

other_class : kind_of (front 2 ++ class 0xb9) ≡ None
other_class = refl

cut_class : kind_of (take 27 (front 2 ++ class 0xb8)) ≡ None
cut_class = refl

-- where only a plain object is read, a big one is told as what it is, and what is none is not called one
told : other_kind 62 (front 2 ++ class 0xb8) ≡ Some BigObject
told = refl

not_told : other_kind 62 (front 2 ++ class 0xb9) ≡ None
not_told = refl

-- the first 16 bytes show a text
text : kind_of (codes "Gr" ++ (codes "uesse aus Koeln" ++ 0xc3 ∷ 0xb6 ∷ [])) ≡ Some Text
text = refl

no_text : kind_of (codes "uesse aus Koeln" ++ 0xc3 ∷ 0xb6 ∷ []) ≡ None
no_text = refl

object : kind_of (0x64 ∷ 0x86 ∷ []) ≡ Some Object
object = refl
