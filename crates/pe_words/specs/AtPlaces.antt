-- The places that the words of `at` name.
use Rattle.std.specs.Prelude.{◌≡◌, ℕ, ◌-◌, ◌^◌, min, List, Option, None, MatchOption}
use Rattle.std.specs.Str.Pattern.{RFindsChar, SplitsAroundMatch}
use denote.Bor.{Bor}
use Rattle.pe_view.specs.declared.fault.Place.{Place}
use Rattle.pe_view.specs.declared.fault.Place.TheVariants.{File, Rva, Address}
use Rattle.pe_words.specs.declared.at_words.AddressKind.{AddressKind}
use Rattle.pe_words.specs.declared.at_words.AddressKind.TheVariants.{Relative, Virtual, InFile}

-- a number, or the greatest that 32 bits hold if it is greater
abbrev pub cut_number : ℕ → ℕ
cut_number number = min number (2 ^ 32 - 1)

-- the place of a number
abbrev pub place_at : AddressKind → ℕ → Place
place_at Relative number = Rva (cut_number number)
place_at Virtual number = Address number
place_at InFile number = File number

-- what is before and after the last `+` of a word, if it has one and its number is not that of an option
abbrev pub IsSectionAndOffset : AddressKind → List ℕ → Option (Bor (List ℕ) × Bor (List ℕ)) → Type 0
IsSectionAndOffset Relative word parts =
    MatchOption parts (RFindsChar 43 word None) (λ pair. SplitsAroundMatch (RFindsChar 43) word pair.0.now pair.1.now)
IsSectionAndOffset Virtual word parts = parts ≡ None
IsSectionAndOffset InFile word parts = parts ≡ None
