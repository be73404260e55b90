-- The lines of a dump for an image's tables.
use Rattle.std.specs.Prelude.{ℕ, List, [], ◌∷◌, ◌++◌, codes, decimal, flat_map}
use Rattle.pe_tables.specs.Key.{Key, Ordinal, Name, Target, Rva, Forward}
use Rattle.pe_tables.specs.Exports.{Exports}
use Rattle.pe_tables.specs.Imports.{Import}
use Rattle.pe_tables.specs.declared.fixups.Fixup.{Fixup}
use Rattle.pe_tables.specs.declared.fixups.FixupKind.{FixupKind}
use Rattle.pe_tables.specs.declared.fixups.FixupKind.TheVariants.{Bits32, Bits64, High, Low}
use Rattle.pe_text.specs.Part.{joined}
use Rattle.pe_text.specs.Text.{hex, quoted}

-- the ordinal or name of an export
unfoldable pub key_text : Key → List ℕ
key_text (Ordinal ordinal) = codes "#" ++ decimal ordinal
key_text (Name text) = quoted text

-- the target of an export
unfoldable pub target_text : Target → List ℕ
target_text (Rva rva) = codes "rva 0x" ++ hex 8 rva
target_text (Forward module_name key) = codes "forward " ++ quoted module_name ++ codes " " ++ key_text key

-- an export by its ordinal
unfoldable pub ordinal_line : ℕ × Target → List ℕ
ordinal_line e = codes "export #" ++ decimal e.0 ++ codes " " ++ target_text e.1 ++ codes "\n"

-- an export by its name
unfoldable pub name_line : List ℕ × Target → List ℕ
name_line e = codes "export " ++ quoted e.0 ++ codes " " ++ target_text e.1 ++ codes "\n"

-- the exports of an image: those by ordinal, then those by name
unfoldable pub export_lines : Exports → List ℕ
export_lines e = flat_map ordinal_line e.ordinals ++ flat_map name_line e.names

-- an import: the module, the ordinal or name of its export, and the RVA of the slot
unfoldable pub import_line : Import → List ℕ
import_line i = codes "import " ++ quoted i.module_name ++ codes " " ++ key_text i.key ++ codes " slot 0x" ++ hex 8 i.slot ++ codes "\n"

-- the kind of a fixup: the width of its field in bits, or the half of the difference that is added to it
unfoldable pub kind_text : FixupKind → List ℕ
kind_text Bits32 = codes "32"
kind_text Bits64 = codes "64"
kind_text High = codes "high"
kind_text Low = codes "low"

-- a fixup: the RVA of its field, and its kind
unfoldable pub fixup_line : Fixup → List ℕ
fixup_line f = joined (codes "fixup 0x" ∷ hex 8 f.field ∷ codes " " ∷ kind_text f.kind ∷ codes "\n" ∷ [])
