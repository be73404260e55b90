-- Whether a base relocation table has a block. No contract of a public function cites it.
use Rattle.std.specs.Prelude.{◌≡◌, ◌+◌, Bool, true, false, Result, Ok, Err}
use Rattle.pe_head.specs.declared.directory.Directory.{Directory}
use Rattle.pe_layout.specs.Image.{LaidOut, fault_at}
use Rattle.pe_tables.specs.Fixups.{block_at, ends_table}
use Rattle.pe_tables.specs.FixupFaults.{is_bad_size}
use Rattle.pe_view.specs.declared.refusal.Refusal.{Refusal}
use Rattle.pe_view.specs.declared.refusal.Refusal.TheVariants.{Fault}

-- the table ends at its start; or its first block has a valid BlockSize, or fault 33
abbrev pub FirstBlock : LaidOut → Directory → Result Bool Refusal → Type 0
FirstBlock i d (Ok false) = ends_table i (d.rva + d.size) d.rva ≡ true
FirstBlock i d (Ok true) = (ends_table i (d.rva + d.size) d.rva ≡ false) × (is_bad_size (d.rva + d.size) d.rva (block_at i d.rva).size ≡ false)
FirstBlock i d (Err error) = (ends_table i (d.rva + d.size) d.rva ≡ false) × (is_bad_size (d.rva + d.size) d.rva (block_at i d.rva).size ≡ true) × (error ≡ Fault (fault_at 33 i d.rva))
