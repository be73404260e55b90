-- What is read of a file at some places.
use Rattle.std.specs.Prelude.{ℕ, ◌≡◌, ◌+◌, ◌<◌, List, [], ◌∷◌, ◌++◌, length, take, All, Result, MatchResult}
use Rattle.pe_view.specs.Number.{byte_of}
use Rattle.pe_text.specs.declared.device.Failed.{Failed}

-- bytes at a file offset
pub record Part : Type 0 where
  pub offset : ℕ
  pub bytes : List ℕ

-- a file has these bytes there
abbrev pub HasPart : List ℕ → Part → Type 0
HasPart file part = (k : ℕ) → k < length part.bytes → byte_of file (part.offset + k) ≡ byte_of part.bytes k

abbrev pub HasParts : List ℕ → List Part → Type 0
HasParts file parts = All (HasPart file) parts

-- the bytes of a file from an offset on are at a place of other bytes, so many of them
abbrev pub Stand : (file bytes : List ℕ) (offset start count : ℕ) → Type 0
Stand file bytes offset start count = (k : ℕ) → k < count → byte_of bytes (start + k) ≡ byte_of file (offset + k)

-- the parts grow by the one at an offset that a call returns, and stay as they are if the call fails
abbrev pub GrowsByPart : ℕ → List Part → List Part → Result ℕ Failed → List ℕ → Type 0
GrowsByPart offset before now result bytes = MatchResult result
    (λ count. now ≡ before ++ record { offset = offset; bytes = take count bytes } ∷ [])
    (λ _. now ≡ before)
