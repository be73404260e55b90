-- What an Authenticode signature signs: the way through PKCS #7 SignedData (RFC 2315, 7 and 9) to the DigestInfo of its
-- SpcIndirectDataContent, and to its certificates.
use Rattle.std.specs.Prelude.{ℕ, ◌==◌, ◌&&◌, List, [], ◌∷◌, Option, None, Some, option_and_then, if◌then◌else◌}
use Rattle.std.specs.Str.{bytes_eq}
use Rattle.pe_trust.specs.Der.{Element, element_of}

-- the tags of the elements on the way
abbrev pub INTEGER : ℕ
INTEGER = 2

abbrev pub OCTET_STRING : ℕ
OCTET_STRING = 4

abbrev pub OBJECT_IDENTIFIER : ℕ
OBJECT_IDENTIFIER = 6

abbrev pub SEQUENCE : ℕ
SEQUENCE = 48

abbrev pub SET : ℕ
SET = 49

abbrev pub CONTEXT_0 : ℕ
CONTEXT_0 = 160

-- 1.2.840.113549.1.7.2, signedData
abbrev pub SIGNED_DATA : List ℕ
SIGNED_DATA = 0x2a ∷ 0x86 ∷ 0x48 ∷ 0x86 ∷ 0xf7 ∷ 0x0d ∷ 0x01 ∷ 0x07 ∷ 0x02 ∷ []

-- 1.3.6.1.4.1.311.2.1.4, SPC_INDIRECT_DATA_OBJID
abbrev pub SPC_INDIRECT_DATA : List ℕ
SPC_INDIRECT_DATA = 0x2b ∷ 0x06 ∷ 0x01 ∷ 0x04 ∷ 0x01 ∷ 0x82 ∷ 0x37 ∷ 0x02 ∷ 0x01 ∷ 0x04 ∷ []

-- the content of the first element, and what is behind it, if it has this tag
abbrev pub content_under : ℕ → List ℕ → Option (List ℕ)
content_under tag bytes = option_and_then (λ (e : Element). if e.tag == tag then Some e.content else None) (element_of bytes)

abbrev pub behind : ℕ → List ℕ → Option (List ℕ)
behind tag bytes = option_and_then (λ (e : Element). if e.tag == tag then Some e.rest else None) (element_of bytes)

-- what is behind the object identifier with which the bytes begin
abbrev pub behind_identifier : List ℕ → List ℕ → Option (List ℕ)
behind_identifier identifier bytes =
    option_and_then (λ (e : Element). if e.tag == OBJECT_IDENTIFIER && bytes_eq e.content identifier then Some e.rest else None) (element_of bytes)

-- ContentInfo ::= SEQUENCE { contentType OBJECT IDENTIFIER, content [0] ANY }: the content, of this type
abbrev pub content_info : List ℕ → List ℕ → Option (List ℕ)
content_info identifier bytes =
    option_and_then (content_under CONTEXT_0) (option_and_then (behind_identifier identifier) (content_under SEQUENCE bytes))

-- SignedData ::= SEQUENCE { version INTEGER, digestAlgorithms SET, contentInfo ContentInfo, certificates [0], .. }: from contentInfo on
abbrev pub signed_content : List ℕ → Option (List ℕ)
signed_content bytes =
    option_and_then (behind SET) (option_and_then (behind INTEGER) (option_and_then (content_under SEQUENCE) (content_info SIGNED_DATA bytes)))

-- SpcIndirectDataContent ::= SEQUENCE { data SEQUENCE, messageDigest DigestInfo }, DigestInfo ::= SEQUENCE { .. }: what is in DigestInfo
abbrev pub digest_info : List ℕ → Option (List ℕ)
digest_info bytes =
    option_and_then (content_under SEQUENCE) (option_and_then (behind SEQUENCE) (option_and_then (content_under SEQUENCE)
    (option_and_then (content_info SPC_INDIRECT_DATA) (signed_content bytes))))

-- DigestInfo ::= SEQUENCE { digestAlgorithm SEQUENCE { algorithm OBJECT IDENTIFIER, .. }, digest OCTET STRING }
pub record Signed : Type 0 where
  pub algorithm : List ℕ
  pub digest : List ℕ

abbrev pub signed_in : List ℕ → Option Signed
signed_in info =
    option_and_then (λ algorithm. option_and_then (λ digest. Some (record { algorithm = algorithm; digest = digest }))
    (option_and_then (content_under OCTET_STRING) (behind SEQUENCE info)))
    (option_and_then (content_under OBJECT_IDENTIFIER) (content_under SEQUENCE info))

abbrev pub signed_digest_of : List ℕ → Option Signed
signed_digest_of bytes = option_and_then signed_in (digest_info bytes)

-- the certificates of SignedData, one behind the other; none where it has none
abbrev pub signers_of : List ℕ → Option (List ℕ)
signers_of bytes = option_and_then (content_under CONTEXT_0) (option_and_then (behind SEQUENCE) (signed_content bytes))
