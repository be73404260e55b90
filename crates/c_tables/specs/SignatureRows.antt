-- The signatures of an image's file as C has them.
use Rattle.std.specs.Prelude.{ℕ, ◌==◌, Bool, true, false, List, [], Option, None, Some}
use Rattle.std.specs.List.{filter}
use Rattle.pe_head.specs.declared.headers.Headers.{Headers}
use Rattle.pe_trust.specs.Certificates.{Entry}
use Rattle.pe_trust.specs.Digests.{algorithm_of, fits_of}
use Rattle.pe_trust.specs.Signature.{Signed, signed_digest_of}
use Rattle.pe_trust.specs.SignedBytes.{authenticode_bytes}
use Rattle.pe_trust.specs.declared.digests.DigestAlgorithm.{DigestAlgorithm}
use Rattle.c_tables.specs.CertificateRows.{certificates}
use Rattle.c_tables.specs.DigestRecords.{algorithm_number}
use Rattle.c_tables.specs.declared.signature.SignatureRow.{SignatureRow}

-- WIN_CERT_TYPE_PKCS_SIGNED_DATA
abbrev pub SIGNED_DATA : ℕ
SIGNED_DATA = 2

abbrev pub is_signature : Entry → Bool
is_signature e = e.kind == SIGNED_DATA

-- the certificates that are signatures, in table order
abbrev pub signatures : List ℕ → Headers → List Entry
signatures file h = filter is_signature (certificates file h)

pub record SignatureText : Type 0 where
  pub offset : ℕ
  pub bytes : List ℕ
  pub digest : List ℕ
  pub algorithm : ℕ
  pub fits : ℕ

abbrev pub signature_text : SignatureRow → SignatureText
signature_text r = record { offset = r.offset; bytes = r.bytes.now; digest = r.digest.now; algorithm = r.algorithm; fits = r.fits }

-- 0 if no signed digest can be read, and 5 if it is of another algorithm
abbrev pub known_number : Option DigestAlgorithm → ℕ
known_number None = 5
known_number (Some algorithm) = algorithm_number algorithm

abbrev pub signed_algorithm : Option Signed → ℕ
signed_algorithm None = 0
signed_algorithm (Some s) = known_number (algorithm_of s.algorithm)

abbrev pub signed_bytes : Option Signed → List ℕ
signed_bytes None = []
signed_bytes (Some s) = s.digest

-- 0 it does not fit, 1 it fits, 2 that is not known
abbrev pub fit_number : Option Bool → ℕ
fit_number None = 2
fit_number (Some true) = 1
fit_number (Some false) = 0

abbrev pub signed_fit : Option Signed → Option (List ℕ) → ℕ
signed_fit None message = 2
signed_fit (Some s) message = fit_number (fits_of s message)

-- a signature, with what it signs of these bytes
abbrev pub signature_by : Option (List ℕ) → Entry → SignatureText
signature_by message e = record {
  offset = e.offset;
  bytes = e.bytes;
  digest = signed_bytes (signed_digest_of e.bytes);
  algorithm = signed_algorithm (signed_digest_of e.bytes);
  fits = signed_fit (signed_digest_of e.bytes) message;
}

abbrev pub signature_row : List ℕ → Headers → Entry → SignatureText
signature_row file h e = signature_by (authenticode_bytes file h) e
