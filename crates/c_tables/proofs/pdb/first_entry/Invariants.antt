use Rattle.std.proofs.Common.{◌≡◌, drop}
use Rattle.std.specs.List.{find}
use Rattle.pe_view.specs.View.{bytes_of}
use Rattle.pe_records.specs.Debug.{debug_entry_at}
use Rattle.pe_records.specs.Records.{records_in}
use Rattle.c_tables.specs.PdbRows.{names_pdb}
use Rattle.c_tables.proofs.pdb.first_entry.Given as goal

abbrev pub invariant-loop-index : goal.invariant-loop-index
invariant-loop-index l =
    let entries = records_in debug_entry_at 28 (bytes_of l.entries.table) in
    find (names_pdb (bytes_of l.file)) entries ≡ find (names_pdb (bytes_of l.file)) (drop l.index entries)
