-- Rows of what C is told, worked out by hand.
use Rattle.std.proofs.Common.{◌≡◌, refl, true, false, [], ◌∷◌}
use Rattle.std.specs.Prelude.{None, Some, replicate}
use Rattle.pe_view.specs.declared.fault.Place.TheVariants.{File}
use Rattle.pe_trust.specs.Digests.{SHA1, sha2}
use Rattle.pe_trust.specs.declared.digests.DigestAlgorithm.TheVariants.{Sha1, Sha512}
use Rattle.c_tables.specs.DigestRecords.{algorithm_numbered, digest_record}
use Rattle.c_tables.specs.SignatureRows.{fit_number, is_signature, signed_algorithm, signed_fit}
use Rattle.c_tables.specs.SignerRows.{name_text}
use Rattle.c_tables.specs.TrustFindings.{present}

row_digest : digest_record (1 ∷ 2 ∷ []) ≡ record { bytes = 1 ∷ 2 ∷ replicate 62 0; len = 2 }
row_digest = refl

row_first : algorithm_numbered 1 ≡ Some Sha1
row_first = refl

row_last : algorithm_numbered 4 ≡ Some Sha512
row_last = refl

row_none : algorithm_numbered 0 ≡ None
row_none = refl

row_other : algorithm_numbered 5 ≡ None
row_other = refl

-- types 1 (X.509) and 2 (PKCS #7)
row_x509 : is_signature (record { offset = 0; length = 8; revision = 0x200; kind = 1; bytes = [] }) ≡ false
row_x509 = refl

row_pkcs : is_signature (record { offset = 0; length = 8; revision = 0x200; kind = 2; bytes = [] }) ≡ true
row_pkcs = refl

-- the object identifiers of SHA-1, SHA-384 and SHA-224
row_sha1 : signed_algorithm (Some (record { algorithm = SHA1; digest = [] })) ≡ 1
row_sha1 = refl

row_sha384 : signed_algorithm (Some (record { algorithm = sha2 2; digest = [] })) ≡ 3
row_sha384 = refl

row_sha224 : signed_algorithm (Some (record { algorithm = sha2 4; digest = [] })) ≡ 5
row_sha224 = refl

row_unsigned : signed_algorithm None ≡ 0
row_unsigned = refl

row_fits : fit_number (Some true) ≡ 1
row_fits = refl

row_differs : fit_number (Some false) ≡ 0
row_differs = refl

-- of an algorithm that is not computed, and of a file that has no bytes to sign
row_unknown : signed_fit (Some (record { algorithm = sha2 4; digest = [] })) (Some []) ≡ 2
row_unknown = refl

row_no_bytes : signed_fit (Some (record { algorithm = SHA1; digest = [] })) None ≡ 2
row_no_bytes = refl

-- commonName "CA" in a name of one set; and a name without one
row_name : name_text (0x31 ∷ 0x0b ∷ 0x30 ∷ 0x09 ∷ 0x06 ∷ 0x03 ∷ 0x55 ∷ 0x04 ∷ 0x03 ∷ 0x0c ∷ 0x02 ∷ 0x43 ∷ 0x41 ∷ []) ≡ 0x43 ∷ 0x41 ∷ []
row_name = refl

row_no_name : name_text [] ≡ []
row_no_name = refl

row_present : present (None ∷ Some (record { number = 222; image = 0; place = File 8 }) ∷ None ∷ Some (record { number = 224; image = 0; place = File 9 }) ∷ []) ≡
    record { number = 222; image = 0; place = File 8 } ∷ record { number = 224; image = 0; place = File 9 } ∷ []
row_present = refl
