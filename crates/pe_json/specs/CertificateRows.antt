-- The certificates of an image's file in a line of JSON.
use Rattle.std.specs.Prelude.{ℕ, ◌==◌, Bool, true, false, List, [], ◌∷◌, ◌++◌, codes, map, Option, None, Some, if◌then◌else◌}
use Rattle.pe_head.specs.declared.directory.Directory.{Directory}
use Rattle.pe_trust.specs.Certificates.{Entry, certificates_by}
use Rattle.pe_trust.specs.Digests.{algorithm_of, fits_of}
use Rattle.pe_trust.specs.Names.{common_name_of}
use Rattle.pe_trust.specs.Signature.{Signed, signed_digest_of}
use Rattle.pe_trust.specs.Signers.{Signer, signers_of_signature}
use Rattle.pe_trust.specs.declared.digests.DigestAlgorithm.{DigestAlgorithm}
use Rattle.pe_trust.specs.declared.digests.DigestAlgorithm.TheVariants.{Sha1, Sha256, Sha384, Sha512}
use Rattle.pe_json.specs.JsonText.{member, object, list, number, name, text_if, hex_string, boolean}

-- ---- what a signature signs
abbrev pub algorithm_name : DigestAlgorithm → List ℕ
algorithm_name Sha1 = codes "SHA-1"
algorithm_name Sha256 = codes "SHA-256"
algorithm_name Sha384 = codes "SHA-384"
algorithm_name Sha512 = codes "SHA-512"

abbrev pub algorithm_if : Option DigestAlgorithm → Option (List ℕ)
algorithm_if None = None
algorithm_if (Some algorithm) = Some (algorithm_name algorithm)

-- whether the digest is that of the file, if that is known
unfoldable pub fits_if : Option Bool → List (List ℕ)
fits_if None = []
fits_if (Some fits) = member (codes "fits") (boolean fits) ∷ []

-- and if it is asked for; `message` is what a signature of the file is to sign
abbrev pub asked : Bool → Signed → Option (List ℕ) → Option Bool
asked false s message = None
asked true s message = fits_of s message

unfoldable pub digest_member : List ℕ → List (List ℕ)
digest_member digest = member (codes "digest_hex") (hex_string digest) ∷ []

abbrev pub signed_members : Bool → Option (List ℕ) → Option Signed → List (List ℕ)
signed_members digests message None = []
signed_members digests message (Some s) =
    text_if (codes "digest_algorithm") (algorithm_if (algorithm_of s.algorithm)) ++ (digest_member s.digest ++ fits_if (asked digests s message))

-- ---- the certificates of a signature
-- a common name, if there is one
unfoldable pub name_if : List ℕ → Option (List ℕ) → List (List ℕ)
name_if key None = []
name_if key (Some text) = name key text ∷ []

abbrev pub signer_row : Signer → List ℕ
signer_row s = object
    (member (codes "serial_hex") (hex_string s.serial)
    ∷ (name_if (codes "subject") (common_name_of s.subject) ++ name_if (codes "issuer") (common_name_of s.issuer)))

unfoldable pub signers_member : List Signer → List (List ℕ)
signers_member signers = member (codes "signers") (list (map signer_row signers)) ∷ []

-- ---- an entry of the certificate table
-- the types, by their numbers ("PE Format", The Attribute Certificate Table)
abbrev pub type_name : ℕ → Option (List ℕ)
type_name kind =
    if kind == 1 then Some (codes "X509") else
    (if kind == 2 then Some (codes "PKCS_SIGNED_DATA") else
    (if kind == 3 then Some (codes "RESERVED_1") else
    (if kind == 4 then Some (codes "TS_STACK_SIGNED") else None)))

unfoldable pub entry_numbers : Entry → List (List ℕ)
entry_numbers e = number (codes "length") e.length ∷ number (codes "revision") e.revision ∷ number (codes "type") e.kind ∷ []

-- what an entry of the type PKCS #7 signs, and the certificates that it has
abbrev pub signature_members : Bool → Option (List ℕ) → Entry → List (List ℕ)
signature_members digests message e =
    if e.kind == 2 then signed_members digests message (signed_digest_of e.bytes) ++ signers_member (signers_of_signature e.bytes) else []

abbrev pub certificate_row : Bool → Option (List ℕ) → Entry → List ℕ
certificate_row digests message e = object
    (number (codes "offset") e.offset
    ∷ (entry_numbers e ++ (text_if (codes "type_name") (type_name e.kind) ++ signature_members digests message e)))

-- the member that lists the entries, if there is a table
unfoldable pub certificates_member : List (List ℕ) → List (List ℕ)
certificates_member rows = member (codes "certificates") (list rows) ∷ []

abbrev pub certificate_members : Bool → List ℕ → Option (List ℕ) → Option Directory → List (List ℕ)
certificate_members digests file message None = []
certificate_members digests file message (Some t) = certificates_member (map (certificate_row digests message) (certificates_by file t))
