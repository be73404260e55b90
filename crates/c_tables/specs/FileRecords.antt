-- CheckSum and the overlay of an image's file as C has them.
use Rattle.std.specs.Prelude.{ℕ, ◌-◌, List, length, Option, None, Some}
use Rattle.pe_head.specs.declared.headers.Headers.{Headers}
use Rattle.pe_trust.specs.CheckSum.{check_sum_of}
use Rattle.pe_trust.specs.Overlay.{file_end}
use Rattle.pe_trust.specs.OverlayKinds.{overlay_kind_of}
use Rattle.pe_trust.specs.SignedBytes.{check_sum_place}
use Rattle.pe_trust.specs.declared.overlay_data.OverlayKind.{OverlayKind}
use Rattle.pe_trust.specs.declared.overlay_data.OverlayKind.TheVariants.{Certificates, SymbolTable, Nsis, SevenZip, Zip, Rar, Cabinet, CompoundFile, Executable, Other}
use Rattle.c_tables.specs.declared.overlay.OverlayRecord.{OverlayRecord}
use Rattle.c_tables.specs.declared.sum.CheckSumRecord.{CheckSumRecord}

abbrev pub check_sum_record : List ℕ → Headers → CheckSumRecord
check_sum_record file h = record { written = h.check_sum; computed = check_sum_of file (check_sum_place h) }

-- the number of what an overlay begins with
abbrev pub kind_number : OverlayKind → ℕ
kind_number Certificates = 1
kind_number SymbolTable = 2
kind_number Nsis = 3
kind_number SevenZip = 4
kind_number Zip = 5
kind_number Rar = 6
kind_number Cabinet = 7
kind_number CompoundFile = 8
kind_number Executable = 9
kind_number Other = 10

abbrev pub overlay_number : Option OverlayKind → ℕ
overlay_number None = 0
overlay_number (Some kind) = kind_number kind

-- a file that ends before, or there, has no overlay
abbrev pub overlay_record : List ℕ → Headers → OverlayRecord
overlay_record file h = record { offset = file_end h; size = length file - file_end h; kind = overlay_number (overlay_kind_of file h) }
