-- Imports that were read, with strings as their bytes.
use Rattle.pe_tables.specs.Key.{key_view}
use Rattle.pe_tables.specs.Imports as table
use Rattle.pe_tables.specs.declared.import.Import.{Import}

abbrev pub import_view : Import → table.Import
import_view i = record { module_name = i.«module».now; key = key_view i.key; slot = i.slot }
