-- Base relocations as C has them.
use Rattle.pe_tables.specs.Encoded.{type_of}
use Rattle.pe_tables.specs.declared.fixups.Fixup.{Fixup}
use Rattle.pe_records_c.specs.declared.fixup.FixupRow.{FixupRow}

abbrev pub fixup_row : Fixup → FixupRow
fixup_row f = record { entry = f.entry; field = f.field; kind = type_of f.kind }
