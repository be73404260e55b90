-- The first entry is the one at the index, or one after it.
use Rattle.std.proofs.Common.{◌≡◌, ◌∙◌, Some, sym}
use Rattle.std.specs.Prelude.{slice_get}
use Rattle.pe_view.specs.View.{bytes_of}
use Rattle.pe_records.specs.Debug.{debug_entry_at}
use Rattle.pe_records.specs.Records.{records_in}
use Rattle.c_tables.specs.PdbRows.{names_pdb, pdb_text}
use Rattle.c_tables.proofs.FirstFound.{found_at, found_later, shown_some}
use Rattle.c_tables.proofs.pdb.first_entry.Goals as goal

pub returns-then-is_some : goal.returns-then-is_some
returns-then-is_some c =
    let entries = records_in debug_entry_at 28 (bytes_of c.args.entries.now.table) in
    let is : slice_get entries c.loop-index.index ≡ Some c.unwrap-entry.result = sym (rw c.unwrap-entry.ensures at c.get.ensures) in
    let holds = shown_some pdb_text _ _ c.entry_pdb.ensures ∙ sym c.is_some.ensures ∙ c.if-is_some.true in
    sym (c.loop-index.invariant ∙ found_at (names_pdb (bytes_of c.args.file)) entries c.loop-index.index c.unwrap-entry.result is holds)

pub loop-index-preserved : goal.loop-index-preserved
loop-index-preserved c =
    let entries = records_in debug_entry_at 28 (bytes_of c.args.entries.now.table) in
    let is : slice_get entries c.loop-index.index ≡ Some c.unwrap-entry.result = sym (rw c.unwrap-entry.ensures at c.get.ensures) in
    let fails = shown_some pdb_text _ _ c.entry_pdb.ensures ∙ sym c.is_some.ensures ∙ c.if-is_some.false in
    c.loop-index.invariant ∙ found_later (names_pdb (bytes_of c.args.file)) entries c.loop-index.index c.unwrap-entry.result is fails
