-- Zero-terminated strings.
use Rattle.std.specs.Prelude.{ℕ, zero, suc, nat_le, List, length, slice_range, [], ◌∷◌, Option, None, Some, option_map, if◌then◌else◌}

-- the bytes before the first zero byte, if there is one
abbrev pub zero_ended : List ℕ → Option (List ℕ)
zero_ended [] = None
zero_ended (zero ∷ bytes) = Some []
zero_ended (suc b ∷ bytes) = option_map (λ text. suc b ∷ text) (zero_ended bytes)

-- the bytes from an offset up to the first zero byte before `end`, if `end` is not past the end of the file
abbrev pub text_between : List ℕ → ℕ → ℕ → Option (List ℕ)
text_between bytes offset end = if nat_le end (length bytes) then zero_ended (slice_range bytes offset end) else None
