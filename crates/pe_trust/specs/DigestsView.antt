-- The digests of a file that were computed.
use Rattle.std.specs.Prelude.{ℕ, ◌≡◌, List, Option, option_map, IfSome}
use Rattle.sha1.specs.Sha1.{sha1}
use Rattle.sha2.specs.Sha256.{sha256}
use Rattle.sha2.specs.Sha512.{sha384, sha512}
use Rattle.pe_trust.specs.declared.file_digests.FileDigests.{FileDigests}

-- each is that of the bytes that a signature is to sign, if there are any
pub record AreDigestsOf (message : Option (List ℕ)) (d : FileDigests) : Type 0 where
  pub sha1 : IfSome d.sha1 (λ own. own ≡ option_map sha1 message)
  pub sha256 : IfSome d.sha256 (λ own. own ≡ option_map sha256 message)
  pub sha384 : IfSome d.sha384 (λ own. own ≡ option_map sha384 message)
  pub sha512 : IfSome d.sha512 (λ own. own ≡ option_map sha512 message)
