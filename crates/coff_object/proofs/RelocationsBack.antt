-- Written relocations, read back.
use Rattle.std.proofs.Common.{◌≡◌, ℕ, ◌+◌, ◌*◌, List, [], ◌∷◌, length, Some, refl, arith}
use Rattle.std.specs.Prelude.{map}
use Rattle.std.specs.List.{flat_map, range_with_len, AllByRecursion}
use Rattle.pe_numbers.specs.declared.number.Number.{Number}
use Rattle.pe_numbers.specs.declared.number.Number.TheVariants.{U16, U32}
use Rattle.pe_numbers.specs.Numbers.{NumberFits, number_bytes, beginning_at}
use Rattle.pe_numbers.specs.StandsAt.{StandsAt, stands-front, stands-back}
use Rattle.coff_read.specs.Reading.{relocation_at}
use Rattle.coff_read.specs.Records.{RelocationFits}
use Rattle.coff_object.specs.Written.{relocation_numbers, relocation_bytes}
use Rattle.coff_read.specs.declared.relocation.Relocation.{Relocation}
use Rattle.coff_object.proofs.Bytes.{field_read}

same_relocation : (a b c d e f : ℕ) → a ≡ b → c ≡ d → e ≡ f
    → record { address = a; symbol = c; kind = e } ≡ (let r : Relocation = record { address = b; symbol = d; kind = f } in r)
same_relocation a b c d e f ab cd ef = cc

pub relocation_fits : (r : Relocation) → RelocationFits r → AllByRecursion NumberFits (relocation_numbers r)
relocation_fits r fits = (fits.address, (fits.symbol, (fits.kind, tt)))

pub relocation_read : (file : List ℕ) (at : ℕ) (r : Relocation) → StandsAt file at (relocation_bytes r) → RelocationFits r → relocation_at file at ≡ r
relocation_read file at r there fits =
    let read = λ (o : ℕ) (x : Number) (is : beginning_at (relocation_numbers r) o ≡ Some x). field_read file at (relocation_numbers r) o x (relocation_fits r fits) there is in
    same_relocation _ _ _ _ _ _ (read 0 (U32 r.address) refl) (read 4 (U32 r.symbol) refl) (read 8 (U16 r.kind) refl)

-- relocations from index i on
pub relocations_read : (file : List ℕ) (base i : ℕ) (rs : List Relocation) → StandsAt file (base + 10 * i) (flat_map relocation_bytes rs) → AllByRecursion RelocationFits rs
    → map (λ k. relocation_at file (base + 10 * k)) (range_with_len i (length rs)) ≡ rs
unfolding number_bytes
relocations_read file base i [] h fits = refl
relocations_read file base i (r ∷ rs) h fits =
    let here = relocation_read file (base + 10 * i) r (stands-front file (base + 10 * i) (relocation_bytes r) (flat_map relocation_bytes rs) h) fits.0 in
    let behind = stands-back file (base + 10 * i) (base + 10 * (i + 1)) (relocation_bytes r) (flat_map relocation_bytes rs) h (omega arith) in
    let later = relocations_read file base (i + 1) rs behind fits.1 in
    rw (here, later) refl
