-- Numbers and their bytes.
use Rattle.std.proofs.Common.{◌≡◌, [], ◌∷◌, refl}
use Rattle.pe_numbers.specs.declared.number.Number.TheVariants.{U8, U16, U32, U64}
use Rattle.pe_numbers.specs.Numbers.{number_bytes, numbers_bytes, numbers_size}

of_one_byte : number_bytes (U8 0x7f) ≡ 0x7f ∷ []
unfolding number_bytes
of_one_byte = refl

-- the signature MZ
of_two_bytes : number_bytes (U16 0x5a4d) ≡ 0x4d ∷ 0x5a ∷ []
unfolding number_bytes
of_two_bytes = refl

of_four_bytes : number_bytes (U32 0x04030201) ≡ 1 ∷ 2 ∷ 3 ∷ 4 ∷ []
unfolding number_bytes
of_four_bytes = refl

of_eight_bytes : number_bytes (U64 0x0807060504030201) ≡ 1 ∷ 2 ∷ 3 ∷ 4 ∷ 5 ∷ 6 ∷ 7 ∷ 8 ∷ []
unfolding number_bytes
of_eight_bytes = refl

-- in sequence
a_row : numbers_bytes (U16 0x0201 ∷ U8 3 ∷ U32 4 ∷ []) ≡ 1 ∷ 2 ∷ 3 ∷ 4 ∷ 0 ∷ 0 ∷ 0 ∷ []
unfolding number_bytes
a_row = refl

its_size : numbers_size (U16 0x0201 ∷ U8 3 ∷ U32 4 ∷ []) ≡ 7
its_size = refl
