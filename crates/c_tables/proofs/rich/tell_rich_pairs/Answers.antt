-- The pairs of the header are those of the file.
use Rattle.std.proofs.Common.{◌∙◌, ℕ, List, ap}
use Rattle.pe_view.specs.View.{bytes_of}
use Rattle.pe_records_c.proofs.Rows.{table_told}
use Rattle.pe_trust.specs.RichView.{pair_view, rich_view}
use Rattle.c_tables.specs.RichRows.{pair_row, pairs_by, pairs_in}
use Rattle.c_tables.proofs.RichPairs.{pairs_shown}
use Rattle.c_tables.proofs.rich.tell_rich_pairs.Goals as goal

pub returns-in-Some : goal.returns-in-Some
returns-in-Some c =
    let header = c.in-Some.header in
    let told = c.put_items.ensures in
    let held = ap (λ (file : List ℕ). pairs_by file (rich_view header)) c.in-Some.ensures.same ∙ ap (pairs_in (bytes_of c.args.file)) c.in-Some.ensures.value in
    table_told (λ r. r) pair_view pair_row _ _ _ _ _ _ (pairs_shown (pairs_by (bytes_of header.file) (rich_view header)) ∙ held) told.rows told.count told.status
