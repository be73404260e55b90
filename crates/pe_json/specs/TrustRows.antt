-- What an image's file says of itself, in a line of JSON.
use Rattle.std.specs.Prelude.{ℕ, ◌+◌, ◌-◌, Bool, true, false, List, [], ◌∷◌, ◌++◌, codes, length, Option, None, Some, option_map}
use Rattle.pe_head.specs.declared.headers.Headers.{Headers}
use Rattle.pe_trust.specs.CertificateTable.{certificate_table}
use Rattle.pe_trust.specs.CheckSum.{check_sum_of}
use Rattle.pe_trust.specs.Digests.{digest_of}
use Rattle.pe_trust.specs.Overlay.{file_end}
use Rattle.pe_trust.specs.OverlayKinds.{overlay_kind_of}
use Rattle.pe_trust.specs.SignedBytes.{authenticode_bytes}
use Rattle.pe_trust.specs.declared.digests.DigestAlgorithm.TheVariants.{Sha256}
use Rattle.pe_trust.specs.declared.overlay_data.OverlayKind.{OverlayKind}
use Rattle.pe_trust.specs.declared.overlay_data.OverlayKind.TheVariants.{Certificates, SymbolTable, Nsis, SevenZip, Zip, Rar, Cabinet, CompoundFile, Executable, Other}
use Rattle.pe_json.specs.CertificateRows.{certificate_members}
use Rattle.pe_json.specs.JsonText.{member, object, number, hex_string, text_if}
use Rattle.pe_json.specs.RichRows.{rich_members}

-- what CheckSum is to be
unfoldable pub sum_member : ℕ → List (List ℕ)
sum_member sum = number (codes "check_sum_computed") sum ∷ []

-- the digest that a signature is to have, if there are bytes that one signs
unfoldable pub digest_if : Option (List ℕ) → List (List ℕ)
digest_if None = []
digest_if (Some digest) = member (codes "authenticode_sha256_hex") (hex_string digest) ∷ []

-- both, if digests are asked for
abbrev pub digest_members : Bool → List ℕ → Headers → List (List ℕ)
digest_members false file h = []
digest_members true file h = sum_member (check_sum_of file (h.pe_offset + 88)) ++ digest_if (option_map (digest_of Sha256) (authenticode_bytes file h))

-- what an overlay begins with
abbrev pub kind_name : OverlayKind → List ℕ
kind_name Certificates = codes "certificate table"
kind_name SymbolTable = codes "symbol table"
kind_name Nsis = codes "NSIS installer data"
kind_name SevenZip = codes "7-Zip archive"
kind_name Zip = codes "ZIP archive"
kind_name Rar = codes "RAR archive"
kind_name Cabinet = codes "cabinet"
kind_name CompoundFile = codes "compound file"
kind_name Executable = codes "executable file"
kind_name Other = codes "other data"

-- what comes after the image's file, which ends at an offset, if the file has more bytes than that
unfoldable pub overlay_in : Option OverlayKind → ℕ → ℕ → List (List ℕ)
overlay_in None end size = []
overlay_in (Some kind) end size =
    member (codes "overlay") (object (number (codes "offset") end ∷ (number (codes "size") (size - end) ∷ text_if (codes "begins_with") (Some (kind_name kind))))) ∷ []

abbrev pub overlay_members : List ℕ → Headers → List (List ℕ)
overlay_members file h = overlay_in (overlay_kind_of file h) (file_end h) (length file)

-- the hash of imports, if there are any
unfoldable pub imphash_if : Option (List ℕ) → List (List ℕ)
imphash_if None = []
imphash_if (Some hash) = member (codes "imphash") (hex_string hash) ∷ []

abbrev pub trust_members : Bool → List ℕ → Headers → List (List ℕ)
trust_members digests file h =
    digest_members digests file h
    ++ (certificate_members digests file (authenticode_bytes file h) (certificate_table h) ++ (overlay_members file h ++ rich_members file h.pe_offset))
