-- How many items the tables of an image have.
use Rattle.std.specs.Prelude.{◌≡◌, ℕ, Bool, ◌&&◌, nat_le, length}
use Rattle.pe_layout.specs.Image.{LaidOut}
use Rattle.pe_tables.specs.Exports.{exports_of}
use Rattle.pe_tables.specs.Fixups.{fixups_of}
use Rattle.pe_tables.specs.Imports.{imports_of}
use Rattle.pe_records_c.specs.declared.tables.CountsRecord.{CountsRecord}

pub record AreCounts (i : LaidOut) (counts : CountsRecord) : Type 0 where
  pub exports : counts.exports ≡ length (exports_of i).ordinals
  pub names : counts.names ≡ length (exports_of i).names
  pub imports : counts.imports ≡ length (imports_of i)
  pub fixups : counts.fixups ≡ length (fixups_of i)

-- each table has at least as many rows as items
abbrev pub have_room : CountsRecord → ℕ → ℕ → ℕ → ℕ → Bool
have_room counts exports names imports fixups = (nat_le counts.exports exports && nat_le counts.names names) && (nat_le counts.imports imports && nat_le counts.fixups fixups)
