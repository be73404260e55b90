-- What a line says of what a file says of itself is JSON.
use Rattle.std.proofs.Common.{◌≡◌, ◌+◌, ◌-◌, ◌*◌, ◌==◌, ℕ, suc, Bool, true, false, List, [], ◌∷◌, ◌++◌, codes, refl, map, length, Option, None, Some, option_map}
use Rattle.std.specs.Prelude.{⊤, nat_lt, if◌then◌else◌}
use Rattle.std.specs.List.{range_with_len}
use Rattle.std.specs.Str.{IsUtf8}
use Rattle.pe_head.specs.declared.directory.Directory.{Directory}
use Rattle.pe_head.specs.declared.headers.Headers.{Headers}
use Rattle.pe_trust.specs.CertificateTable.{certificate_table}
use Rattle.pe_trust.specs.Certificates.{Entry, certificates_by}
use Rattle.pe_trust.specs.CheckSum.{check_sum_of}
use Rattle.pe_trust.specs.Digests.{algorithm_of, digest_of}
use Rattle.pe_trust.specs.Names.{common_name_of}
use Rattle.pe_trust.specs.Overlay.{file_end}
use Rattle.pe_trust.specs.OverlayKinds.{overlay_kind_of}
use Rattle.pe_trust.specs.Rich.{Pair, Rich, pair_at, pair_count, rich_of, rich_sum}
use Rattle.pe_trust.specs.Signature.{Signed, signed_digest_of}
use Rattle.pe_trust.specs.SignedBytes.{authenticode_bytes}
use Rattle.pe_trust.specs.Signers.{Signer, signers_of_signature}
use Rattle.pe_trust.specs.declared.digests.DigestAlgorithm.{DigestAlgorithm}
use Rattle.pe_trust.specs.declared.digests.DigestAlgorithm.TheVariants.{Sha1, Sha256, Sha384, Sha512}
use Rattle.pe_trust.specs.declared.overlay_data.OverlayKind.{OverlayKind}
use Rattle.pe_trust.specs.declared.overlay_data.OverlayKind.TheVariants.{Certificates, SymbolTable, Nsis, SevenZip, Zip, Rar, Cabinet, CompoundFile, Executable, Other}
use Rattle.pe_json.specs.CertificateRows.{algorithm_if, asked, certificate_members, certificate_row, certificates_member, digest_member, entry_numbers, fits_if, name_if, signature_members, signed_members, signer_row, signers_member, type_name}
use Rattle.pe_json.specs.JsonText.{member, object, number, text_if}
use Rattle.pe_json.specs.RichRows.{key_members, pair_row, pair_rows, pairs_member, rich_in, rich_members}
use Rattle.pe_json.specs.TrustRows.{digest_if, digest_members, imphash_if, kind_name, overlay_in, overlay_members, sum_member, trust_members}
use Rattle.pe_json.proofs.Printed.{IsValue, AreValues, AreMembers, ascii, is_boolean, items_value, members_value}
use Rattle.pe_json.proofs.JsonMembers.{IfUtf8, IsAsciiText, is_member, number_member, name_member, hex_value, members_then, text_members, row_values}

-- ---- digests
are_digest_members : (limit : ℕ) (digest : List ℕ) → AreMembers limit (digest_member digest)
unfolding digest_member
are_digest_members limit digest = (is_member _ _ _ refl (hex_value _ digest), tt)

are_fits : (limit : ℕ) (fits : Option Bool) → AreMembers limit (fits_if fits)
unfolding fits_if
are_fits limit None = tt
are_fits limit (Some fits) = (is_member _ _ _ refl (is_boolean _ fits), tt)

algorithm_ascii : (algorithm : Option DigestAlgorithm) → IfUtf8 (algorithm_if algorithm)
algorithm_ascii None = tt
algorithm_ascii (Some Sha1) = ascii _ refl
algorithm_ascii (Some Sha256) = ascii _ refl
algorithm_ascii (Some Sha384) = ascii _ refl
algorithm_ascii (Some Sha512) = ascii _ refl

are_signed : (limit : ℕ) (digests : Bool) (message : Option (List ℕ)) (s : Option Signed) → AreMembers limit (signed_members digests message s)
are_signed limit digests message None = tt
are_signed limit digests message (Some s) =
    members_then _ (text_if (codes "digest_algorithm") (algorithm_if (algorithm_of s.algorithm))) _
    (text_members _ _ (algorithm_if (algorithm_of s.algorithm)) refl (algorithm_ascii (algorithm_of s.algorithm)))
    (members_then _ (digest_member s.digest) (fits_if (asked digests s message)) (are_digest_members _ s.digest) (are_fits _ (asked digests s message)))

-- ---- certificates
are_names : (limit : ℕ) (key : List ℕ) (text : Option (List ℕ)) → IsAsciiText key → IsAsciiText (key ++ codes "_hex") → AreMembers limit (name_if key text)
unfolding name_if
are_names limit key None key_ascii hex_ascii = tt
are_names limit key (Some text) key_ascii hex_ascii = (name_member _ _ _ key_ascii hex_ascii, tt)

signer_value : (limit : ℕ) (s : Signer) → IsValue (suc limit) (signer_row s)
signer_value limit s =
    members_value limit _ (
      is_member _ _ _ refl (hex_value _ s.serial),
      members_then _ (name_if (codes "subject") (common_name_of s.subject)) (name_if (codes "issuer") (common_name_of s.issuer))
          (are_names _ (codes "subject") (common_name_of s.subject) refl refl) (are_names _ (codes "issuer") (common_name_of s.issuer) refl refl),
    )

are_signers : (limit : ℕ) (signers : List Signer) → AreMembers (suc (suc limit)) (signers_member signers)
unfolding signers_member
are_signers limit signers = (is_member _ _ _ refl (items_value (suc limit) _ (row_values (suc limit) signer_row signers (signer_value limit))), tt)

are_signature_members : (limit : ℕ) (digests : Bool) (message : Option (List ℕ)) (e : Entry) → AreMembers (suc (suc limit)) (signature_members digests message e)
are_signature_members limit digests message e = by (e.kind == 2)
  where
    by : (b : Bool) → AreMembers (suc (suc limit)) (if b then signed_members digests message (signed_digest_of e.bytes) ++ signers_member (signers_of_signature e.bytes) else [])
    by true =
        members_then _ (signed_members digests message (signed_digest_of e.bytes)) (signers_member (signers_of_signature e.bytes))
        (are_signed _ digests message (signed_digest_of e.bytes)) (are_signers limit (signers_of_signature e.bytes))
    by false = tt

type_ascii : (kind : ℕ) → IfUtf8 (type_name kind)
type_ascii kind = by (kind == 1) (kind == 2) (kind == 3) (kind == 4)
  where
    by : (b c d e : Bool) → IfUtf8 (if b then Some (codes "X509") else
        (if c then Some (codes "PKCS_SIGNED_DATA") else (if d then Some (codes "RESERVED_1") else (if e then Some (codes "TS_STACK_SIGNED") else None))))
    by true c d e = ascii _ refl
    by false true d e = ascii _ refl
    by false false true e = ascii _ refl
    by false false false true = ascii _ refl
    by false false false false = tt

are_entry_numbers : (limit : ℕ) (e : Entry) → AreMembers limit (entry_numbers e)
unfolding entry_numbers
are_entry_numbers limit e = (number_member _ _ _ refl, (number_member _ _ _ refl, (number_member _ _ _ refl, tt)))

certificate_value : (limit : ℕ) (digests : Bool) (message : Option (List ℕ)) (e : Entry) → IsValue (suc (suc (suc limit))) (certificate_row digests message e)
certificate_value limit digests message e =
    members_value _ _ (
      number_member _ _ _ refl,
      members_then _ (entry_numbers e) _ (are_entry_numbers _ e)
          (members_then _ (text_if (codes "type_name") (type_name e.kind)) (signature_members digests message e)
          (text_members _ _ (type_name e.kind) refl (type_ascii e.kind)) (are_signature_members limit digests message e)),
    )

are_certificate_members : (limit : ℕ) (digests : Bool) (file : List ℕ) (message : Option (List ℕ)) (d : Option Directory)
    → AreMembers (suc (suc (suc (suc limit)))) (certificate_members digests file message d)
unfolding certificates_member
are_certificate_members limit digests file message None = tt
are_certificate_members limit digests file message (Some t) =
    (is_member _ _ _ refl (items_value _ _ (row_values _ (certificate_row digests message) (certificates_by file t) (certificate_value limit digests message))), tt)

-- ---- the Rich header
pair_value : (limit : ℕ) (p : Pair) → IsValue (suc limit) (pair_row p)
pair_value limit p = members_value limit _ (number_member _ _ _ refl, (number_member _ _ _ refl, (number_member _ _ _ refl, tt)))

are_key_members : (limit : ℕ) (file : List ℕ) (r : Rich) → AreMembers limit (key_members file r)
unfolding key_members
are_key_members limit file r = (number_member _ _ _ refl, (is_member _ _ _ refl (is_boolean _ (r.key == rich_sum file r)), tt))

are_pairs : (limit : ℕ) (file : List ℕ) (r : Rich) → AreMembers (suc (suc limit)) (pairs_member (pair_rows file r))
unfolding pairs_member
are_pairs limit file r =
    (is_member _ _ _ refl (items_value _ _ (row_values _ (λ i. pair_row (pair_at file r i)) (range_with_len 0 (pair_count r)) (λ i. pair_value limit (pair_at file r i)))), tt)

are_rich : (limit : ℕ) (file : List ℕ) (r : Option Rich) → AreMembers (suc (suc (suc limit))) (rich_in file r)
unfolding rich_in
are_rich limit file None = tt
are_rich limit file (Some r) = (
  is_member _ _ _ refl (members_value _ _ (
    number_member _ _ _ refl,
    members_then _ (key_members file r) (pairs_member (pair_rows file r)) (are_key_members _ file r) (are_pairs limit file r),
  )),
  tt,
)

-- ---- all of it
are_digest_if : (limit : ℕ) (digest : Option (List ℕ)) → AreMembers limit (digest_if digest)
unfolding digest_if
are_digest_if limit None = tt
are_digest_if limit (Some digest) = (is_member _ _ _ refl (hex_value _ digest), tt)

are_sums : (limit sum : ℕ) → AreMembers limit (sum_member sum)
unfolding sum_member
are_sums limit sum = (number_member _ _ _ refl, tt)

are_digests : (limit : ℕ) (digests : Bool) (file : List ℕ) (h : Headers) → AreMembers limit (digest_members digests file h)
are_digests limit false file h = tt
are_digests limit true file h =
    members_then _ (sum_member (check_sum_of file (h.pe_offset + 88))) (digest_if (option_map (digest_of Sha256) (authenticode_bytes file h)))
    (are_sums _ (check_sum_of file (h.pe_offset + 88))) (are_digest_if _ (option_map (digest_of Sha256) (authenticode_bytes file h)))

kind_utf8 : (kind : OverlayKind) → IsUtf8 (kind_name kind)
kind_utf8 Certificates = ascii _ refl
kind_utf8 SymbolTable = ascii _ refl
kind_utf8 Nsis = ascii _ refl
kind_utf8 SevenZip = ascii _ refl
kind_utf8 Zip = ascii _ refl
kind_utf8 Rar = ascii _ refl
kind_utf8 Cabinet = ascii _ refl
kind_utf8 CompoundFile = ascii _ refl
kind_utf8 Executable = ascii _ refl
kind_utf8 Other = ascii _ refl

are_overlay : (limit : ℕ) (kind : Option OverlayKind) (end size : ℕ) → AreMembers (suc limit) (overlay_in kind end size)
unfolding overlay_in
are_overlay limit None end size = tt
are_overlay limit (Some kind) end size =
    (is_member _ _ _ refl (members_value _ _ (number_member _ _ _ refl, (number_member _ _ _ refl, text_members _ _ (Some (kind_name kind)) refl (kind_utf8 kind)))), tt)

pub are_imphash_if : (limit : ℕ) (hash : Option (List ℕ)) → AreMembers limit (imphash_if hash)
unfolding imphash_if
are_imphash_if limit None = tt
are_imphash_if limit (Some hash) = (is_member _ _ _ refl (hex_value _ hash), tt)

pub are_trust_members : (limit : ℕ) (digests : Bool) (file : List ℕ) (h : Headers) → AreMembers (suc (suc (suc (suc limit)))) (trust_members digests file h)
are_trust_members limit digests file h =
    let message = authenticode_bytes file h in
    let table = certificate_table h in
    members_then _ (digest_members digests file h) _ (are_digests _ digests file h)
    (members_then _ (certificate_members digests file message table) _ (are_certificate_members limit digests file message table)
    (members_then _ (overlay_members file h) (rich_members file h.pe_offset) (are_overlay _ (overlay_kind_of file h) (file_end h) (length file)) (are_rich _ file (rich_of file h.pe_offset))))
