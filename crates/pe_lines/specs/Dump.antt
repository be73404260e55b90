-- The lines of a dump.
use Rattle.std.specs.Prelude.{ℕ, List, [], ◌∷◌, ◌++◌, codes, decimal, flat_map, unwrap_or}
use Rattle.pe_view.specs.Text.{zero_ended}
use Rattle.pe_head.specs.declared.optional.Magic.{Magic}
use Rattle.pe_head.specs.declared.directory.Directory.{Directory}
use Rattle.pe_head.specs.declared.section.SectionHeader.{SectionHeader}
use Rattle.pe_head.specs.declared.headers.Headers.{Headers}
use Rattle.pe_head.specs.Section.{extent, rawlen}
use Rattle.pe_tables.specs.Exports.{Exports}
use Rattle.pe_tables.specs.Imports.{Import}
use Rattle.pe_tables.specs.declared.fixups.Fixup.{Fixup}
use Rattle.pe_lines.specs.Format.{format_name}
use Rattle.pe_text.specs.HeaderFields.{coff_fields, standard_fields, base_of_data_fields, windows_fields}
use Rattle.pe_lines.specs.TableLines.{export_lines, import_line, fixup_line}
use Rattle.pe_text.specs.Field.{field_line}
use Rattle.pe_text.specs.MachineLine.{machine_line}
use Rattle.pe_text.specs.Part.{joined}
use Rattle.pe_text.specs.Text.{hex, quoted, numbered}

-- the form of an image
unfoldable pub format_line : Magic → List ℕ
format_line magic = joined (codes "format " ∷ format_name magic ∷ codes "\n" ∷ [])

-- the file offset of the signature
unfoldable pub pe_offset_line : ℕ → List ℕ
pe_offset_line offset = joined (codes "pe-offset 0x" ∷ hex 8 offset ∷ codes "\n" ∷ [])

-- a directory, with its index, RVA and size
unfoldable pub directory_line : ℕ → Directory → List ℕ
directory_line index d = joined
    (codes "Directory " ∷ decimal index ∷ codes " 0x" ∷ hex 8 d.rva ∷ codes " 0x" ∷ hex 8 d.size ∷ codes "\n" ∷ [])

-- a section's name, up to its first zero byte
abbrev pub name_of : SectionHeader → List ℕ
name_of s = unwrap_or (zero_ended s.name) s.name

-- a section, with its index from 0
unfoldable pub section_line : ℕ → SectionHeader → List ℕ
section_line index s = joined
    (codes "section " ∷ decimal index ∷ codes " " ∷ quoted (name_of s)
    ∷ codes " va 0x" ∷ hex 8 s.virtual_address ∷ codes " extent 0x" ∷ hex 8 (extent s)
    ∷ codes " raw 0x" ∷ hex 8 s.pointer_to_raw_data ∷ codes " rawlen 0x" ∷ hex 8 (rawlen s)
    ∷ codes " flags 0x" ∷ hex 8 s.characteristics ∷ codes "\n" ∷ [])

-- the fields of the headers, in the order of "PE Format"
unfoldable pub field_lines : Headers → List ℕ
field_lines h =
    machine_line h.machine
    ++ flat_map field_line (coff_fields h)
    ++ flat_map field_line (standard_fields h)
    ++ flat_map field_line (base_of_data_fields h.base_of_data)
    ++ flat_map field_line (windows_fields h)

-- the whole dump, of the headers and the tables
unfoldable pub dump_text : Headers → Exports → List Import → List Fixup → List ℕ
dump_text h exports imports fixups =
    format_line h.magic
    ++ pe_offset_line h.pe_offset
    ++ field_lines h
    ++ numbered directory_line 0 h.directories.items
    ++ numbered section_line 0 h.sections.items
    ++ export_lines exports
    ++ flat_map import_line imports
    ++ flat_map fixup_line fixups
    ++ codes "end\n"
