-- What the code holds of a certificate, and of those that are left.
use Rattle.std.specs.Prelude.{List}
use Rattle.pe_trust.specs.Signers as der
use Rattle.pe_trust.specs.Signers.{signers_in}
use Rattle.pe_trust.specs.declared.signer.Signer.{Signer}
use Rattle.pe_trust.specs.declared.signer.Signers.{Signers}

abbrev pub signer_view : Signer → der.Signer
signer_view s = record { serial = s.serial.now; issuer = s.issuer.now; subject = s.subject.now }

abbrev pub signers_left : Signers → List der.Signer
signers_left s = signers_in s.bytes.now
