-- Windows of an image, and numbers written over them. No contract of a public function uses this module.
use Rattle.std.specs.Prelude.{ℕ, ◌+◌, ◌-◌, List, [], ◌∷◌, map, if◌then◌else◌}
use Rattle.std.specs.List.{find, range_with_len}
use Rattle.pe_space.specs.Number.{digit}
use Rattle.pe_space.specs.Content.{SpaceImage, Content, is_in, in_field, fixed_byte, byte_in}

-- the window that begins at RVA `start`, with the lowest `width` bytes of a number that belong at RVA `place` written over it, as
-- far as they are inside the window
abbrev pub laid_on : ℕ → ℕ → ℕ → ℕ → List ℕ → List ℕ
laid_on start place width v [] = []
laid_on start place width v (x ∷ xs) = (if is_in place width start then digit v (start - place) else x) ∷ laid_on (start + 1) place width v xs

-- the byte of an image at an RVA, outside its bound slots
abbrev pub fixed_at : SpaceImage → ℕ → ℕ
fixed_at image r = fixed_byte image r (find (in_field r) image.fixups)

-- n bytes of an image from an RVA on, without bound slots and with them
unfoldable pub fixed_bytes : SpaceImage → ℕ → ℕ → List ℕ
fixed_bytes image r n = map (fixed_at image) (range_with_len r n)

unfoldable pub bytes_in : Content → ℕ → ℕ → ℕ → List ℕ
bytes_in c j r n = map (byte_in c j) (range_with_len r n)
