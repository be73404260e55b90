-- The digest algorithms of signatures by their object identifiers, and when a signed digest fits.
use Rattle.std.specs.Prelude.{ℕ, Bool, List, [], ◌∷◌, Option, None, Some, option_map, option_and_then, if◌then◌else◌}
use Rattle.std.specs.Str.{bytes_eq}
use Rattle.sha1.specs.Sha1.{sha1}
use Rattle.sha2.specs.Sha256.{sha256}
use Rattle.sha2.specs.Sha512.{sha384, sha512}
use Rattle.pe_trust.specs.Signature.{Signed}
use Rattle.pe_trust.specs.declared.digests.DigestAlgorithm.{DigestAlgorithm}
use Rattle.pe_trust.specs.declared.digests.DigestAlgorithm.TheVariants.{Sha1, Sha256, Sha384, Sha512}

-- in DER: 1.3.14.3.2.26, and 2.16.840.1.101.3.4.2.1 to 3
abbrev pub SHA1 : List ℕ
SHA1 = 0x2b ∷ 0x0e ∷ 0x03 ∷ 0x02 ∷ 0x1a ∷ []

abbrev pub sha2 : ℕ → List ℕ
sha2 number = 0x60 ∷ 0x86 ∷ 0x48 ∷ 0x01 ∷ 0x65 ∷ 0x03 ∷ 0x04 ∷ 0x02 ∷ number ∷ []

abbrev pub algorithm_of : List ℕ → Option DigestAlgorithm
algorithm_of identifier =
    if bytes_eq identifier SHA1 then Some Sha1 else
    (if bytes_eq identifier (sha2 1) then Some Sha256 else
    (if bytes_eq identifier (sha2 2) then Some Sha384 else
    (if bytes_eq identifier (sha2 3) then Some Sha512 else None)))

abbrev pub digest_of : DigestAlgorithm → List ℕ → List ℕ
digest_of Sha1 message = sha1 message
digest_of Sha256 message = sha256 message
digest_of Sha384 message = sha384 message
digest_of Sha512 message = sha512 message

-- of the bytes that a signature is to sign
abbrev pub fits_of : Signed → Option (List ℕ) → Option Bool
fits_of s message = option_and_then (λ algorithm. option_map (λ bytes. bytes_eq s.digest (digest_of algorithm bytes)) message) (algorithm_of s.algorithm)
