-- The line of an image without a fault.
use Rattle.std.specs.Prelude.{ℕ, true, List, [], ◌∷◌, ◌++◌, codes, Option}
use Rattle.json.specs.Print.{quoted}
use Rattle.pe_head.specs.declared.optional.Magic.{Magic}
use Rattle.pe_head.specs.declared.optional.Magic.TheVariants.{Pe32, Pe32Plus}
use Rattle.pe_head.specs.declared.headers.Headers.{Headers}
use Rattle.pe_tables.specs.Exports.{Exports}
use Rattle.pe_tables.specs.Imports.{Import}
use Rattle.pe_tables.specs.declared.fixups.Fixup.{Fixup}
use Rattle.pe_json.specs.JsonText.{member, number}
use Rattle.pe_json.specs.Line.{line}
use Rattle.pe_json.specs.Headers.{headers_object, directories_list}
use Rattle.pe_json.specs.Sections.{sections_list}
use Rattle.pe_json.specs.ExportRows.{exports_list}
use Rattle.pe_json.specs.TableRows.{imports_list, fixups_list}

abbrev pub format_name : Magic → List ℕ
format_name Pe32 = codes "PE32"
format_name Pe32Plus = codes "PE32+"

-- what the headers of an image say; the names of its sections may be in its string table
unfoldable pub head_members : Option (List ℕ) → Headers → List (List ℕ)
head_members strings h =
    member (codes "format") (quoted (format_name h.magic))
    ∷ number (codes "pe_offset") h.pe_offset
    ∷ member (codes "headers") (headers_object h)
    ∷ member (codes "directories") (directories_list h.directories.items)
    ∷ member (codes "sections") (sections_list strings h.sections.items) ∷ []

unfoldable pub exports_members : Exports → List (List ℕ)
exports_members exports = member (codes "exports") (exports_list exports) ∷ []

unfoldable pub imports_members : List Import → List (List ℕ)
imports_members imports = member (codes "imports") (imports_list imports) ∷ []

unfoldable pub fixups_members : List Fixup → List (List ℕ)
fixups_members fixups = member (codes "fixups") (fixups_list fixups) ∷ []

-- the members of an image without a fault, from its headers and the tables of its profile
abbrev pub profile_members : Option (List ℕ) → Headers → Exports → List Import → List Fixup → List (List ℕ)
profile_members strings h exports imports fixups = head_members strings h ++ (exports_members exports ++ (imports_members imports ++ fixups_members fixups))

-- its line, with the members of the tables that its profile leaves out
abbrev pub image_line : List ℕ → Option (List ℕ) → Headers → Exports → List Import → List Fixup → List (List ℕ) → List ℕ
image_line file strings h exports imports fixups records = line file true (profile_members strings h exports imports fixups ++ records)
