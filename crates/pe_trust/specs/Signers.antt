-- The certificates of a signature (X.509, RFC 5280, 4.1): each by its serial number, its issuer and its subject, as they are in DER.
use Rattle.std.specs.Prelude.{ℕ, zero, suc, List, [], ◌∷◌, length, Option, None, Some, option_and_then, option_map, unwrap_or}
use Rattle.pe_trust.specs.Signature.{INTEGER, SEQUENCE, CONTEXT_0, behind, content_under, signers_of}

pub record Signer : Type 0 where
  pub serial : List ℕ
  pub issuer : List ℕ
  pub subject : List ℕ

-- TBSCertificate ::= SEQUENCE { version [0] DEFAULT v1, serialNumber INTEGER, .. }: from the serial number on
abbrev pub unversioned : List ℕ → List ℕ
unversioned members = unwrap_or (behind CONTEXT_0 members) members

-- serialNumber INTEGER, signature SEQUENCE, issuer SEQUENCE, validity SEQUENCE, subject SEQUENCE, ..: from the issuer, and from the subject on
abbrev pub from_issuer : List ℕ → Option (List ℕ)
from_issuer numbered = option_and_then (behind SEQUENCE) (behind INTEGER numbered)

abbrev pub from_subject : List ℕ → Option (List ℕ)
from_subject numbered = option_and_then (behind SEQUENCE) (option_and_then (behind SEQUENCE) (from_issuer numbered))

abbrev pub signer_by : List ℕ → Option Signer
signer_by numbered =
    option_and_then (λ serial. option_and_then (λ issuer. option_map (λ subject. record { serial = serial; issuer = issuer; subject = subject })
    (option_and_then (content_under SEQUENCE) (from_subject numbered)))
    (option_and_then (content_under SEQUENCE) (from_issuer numbered)))
    (content_under INTEGER numbered)

-- Certificate ::= SEQUENCE { tbsCertificate TBSCertificate, .. }
abbrev pub signer_of : List ℕ → Option Signer
signer_of certificate = option_and_then (λ members. signer_by (unversioned members)) (option_and_then (content_under SEQUENCE) (content_under SEQUENCE certificate))

-- the certificates behind the first
abbrev pub behind_first : List ℕ → List ℕ
behind_first bytes = unwrap_or (behind SEQUENCE bytes) []

-- the first, if it is one, before the rest
abbrev pub and_then_rest : Option Signer → List Signer → List Signer
and_then_rest None rest = []
and_then_rest (Some s) rest = s ∷ rest

-- of the certificates one behind the other, up to the first that is none, at most so many
abbrev pub signers_from : ℕ → List ℕ → List Signer
signers_from zero bytes = []
signers_from (suc most) bytes = and_then_rest (signer_of bytes) (signers_from most (behind_first bytes))

-- there are no more than bytes
abbrev pub signers_in : List ℕ → List Signer
signers_in bytes = signers_from (length bytes) bytes

abbrev pub signers_of_signature : List ℕ → List Signer
signers_of_signature signature = signers_in (unwrap_or (signers_of signature) [])
