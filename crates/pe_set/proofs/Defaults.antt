-- The default past the end of a list.
use Rattle.std.proofs.Common.{[]}
use Rattle.pe_tables.specs.declared.import.Import.{Import}
use Rattle.pe_tables.specs.declared.key.Key.TheVariants.{Ordinal}
use Rattle.pe_set.specs.declared.entry.SetEntry.{SetEntry}
use Rattle.pe_set.specs.declared.standing.Standing.{Standing}

abbrev pub no_entry : SetEntry
no_entry = record { name = record { ref_ptr = (0, 0); now = [] }; file = record { ref_ptr = (0, 0); now = [] }; base = 0 }

abbrev pub no_import : Import
no_import = record { «module» = record { ref_ptr = (0, 0); now = [] }; key = Ordinal 0; slot = 0 }

abbrev pub no_standing : Standing
no_standing = record { image = 0; number = 0; len = 0; name = record { ref_ptr = (0, 0); now = [] } }
