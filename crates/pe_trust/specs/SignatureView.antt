-- What the code holds of a signed digest.
use Rattle.pe_trust.specs.Signature.{Signed}
use Rattle.pe_trust.specs.declared.signature.SignedDigest.{SignedDigest}

abbrev pub signed_view : SignedDigest → Signed
signed_view s = record { algorithm = s.algorithm.now; digest = s.digest.now }
