-- What an overlay begins with.
use Rattle.std.specs.Prelude.{ℕ, ◌+◌, ◌-◌, ◌==◌, ◌&&◌, ◌||◌, not, nat_le, Bool, false, List, [], ◌∷◌, length, codes, Option, None, Some, if◌then◌else◌}
use Rattle.std.specs.Str.{bytes_eq}
use Rattle.pe_view.specs.Number.{part}
use Rattle.pe_head.specs.declared.directory.Directory.{Directory}
use Rattle.pe_head.specs.declared.headers.Headers.{Headers}
use Rattle.pe_trust.specs.CertificateTable.{certificate_table}
use Rattle.pe_trust.specs.Overlay.{file_end}
use Rattle.pe_trust.specs.declared.overlay_data.OverlayKind.{OverlayKind}
use Rattle.pe_trust.specs.declared.overlay_data.OverlayKind.TheVariants.{Certificates, SymbolTable, Nsis, SevenZip, Zip, Rar, Cabinet, CompoundFile, Executable, Other}

abbrev pub stands_at : List ℕ → ℕ → List ℕ → Bool
stands_at content offset bytes = nat_le (offset + length bytes) (length content) && bytes_eq (part content offset (length bytes)) bytes

-- behind four bytes of flags: 0xdeadbeef and "NullsoftInst"
abbrev pub NSIS : List ℕ
NSIS = 0xef ∷ 0xbe ∷ 0xad ∷ 0xde ∷ 0x4e ∷ 0x75 ∷ 0x6c ∷ 0x6c ∷ 0x73 ∷ 0x6f ∷ 0x66 ∷ 0x74 ∷ 0x49 ∷ 0x6e ∷ 0x73 ∷ 0x74 ∷ []

-- by its first bytes
abbrev pub kind_of_data : List ℕ → OverlayKind
kind_of_data content =
    if stands_at content 4 NSIS then Nsis else
    (if stands_at content 0 (0x37 ∷ 0x7a ∷ 0xbc ∷ 0xaf ∷ 0x27 ∷ 0x1c ∷ []) || stands_at content 0 (codes ";!@Install@!") then SevenZip else
    (if stands_at content 0 (0x50 ∷ 0x4b ∷ 3 ∷ 4 ∷ []) then Zip else
    (if stands_at content 0 (0x52 ∷ 0x61 ∷ 0x72 ∷ 0x21 ∷ 0x1a ∷ 7 ∷ []) then Rar else
    (if stands_at content 0 (codes "MSCF") then Cabinet else
    (if stands_at content 0 (0xd0 ∷ 0xcf ∷ 0x11 ∷ 0xe0 ∷ 0xa1 ∷ 0xb1 ∷ 0x1a ∷ 0xe1 ∷ []) then CompoundFile else
    (if stands_at content 0 (codes "MZ") then Executable else Other))))))

-- the certificate table, if there is one, begins at a file offset
abbrev pub is_begun_by_certificates : Option Directory → ℕ → Bool
is_begun_by_certificates None offset = false
is_begun_by_certificates (Some t) offset = t.rva == offset

abbrev pub is_begun_by_symbols : Headers → ℕ → Bool
is_begun_by_symbols h offset = not (h.number_of_symbols == 0) && (h.pointer_to_symbol_table == offset)

-- what is behind the end of a file by its headers
abbrev pub overlay_of : List ℕ → Headers → List ℕ
overlay_of file h = part file (file_end h) (length file - file_end h)

abbrev pub overlay_kind_of : List ℕ → Headers → Option OverlayKind
overlay_kind_of file h =
    if nat_le (length file) (file_end h) then None else
    (if is_begun_by_certificates (certificate_table h) (file_end h) then Some Certificates else
    (if is_begun_by_symbols h (file_end h) then Some SymbolTable else Some (kind_of_data (overlay_of file h))))
