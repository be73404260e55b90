-- The archive's own line: its first fault, its kind, and its symbols.
use Rattle.std.specs.Prelude.{ℕ, Bool, List, [], ◌∷◌, ◌++◌, codes, Option, option_map, if◌then◌else◌}
use Rattle.json.specs.Print.{quoted}
use Rattle.pe_view.specs.declared.fault.Fault.{Fault}
use Rattle.coff_archive.specs.declared.linker.Linker.{Linker}
use Rattle.coff_archive.specs.declared.linker.Linker.TheVariants.{First, Second}
use Rattle.coff_archive.specs.Front.{linker_member}
use Rattle.coff_archive.specs.Symbols.{Symbol, symbols}
use Rattle.pe_json.specs.JsonText.{member}
use Rattle.coff_archive_json.specs.Line.{line, alone, verdict}
use Rattle.coff_archive_json.specs.SymbolRows.{symbols_if}

-- whether the members' bytes stand in files of their own
unfoldable pub format_members : Bool → List (List ℕ)
format_members thin = member (codes "format") (if thin then quoted (codes "thin archive") else quoted (codes "archive")) ∷ []

-- the symbols of one of the linker members, if the archive has it
abbrev pub symbols_of : Linker → Bool → List ℕ → Option (List Symbol)
symbols_of linker thin file = option_map (λ m. symbols linker m.bytes) (linker_member linker thin file)

abbrev pub archive_members : Bool → List ℕ → List (List ℕ)
archive_members thin file =
    format_members thin
    ++ (symbols_if (codes "first_linker_member") (symbols_of First thin file) ++ symbols_if (codes "second_linker_member") (symbols_of Second thin file))

-- that of an archive whose members have this first fault, or none
abbrev pub archive_line : List ℕ → Bool → List ℕ → Option Fault → List ℕ
archive_line archive thin file fault = line archive (verdict (option_map alone fault) ++ archive_members thin file)
