-- One more header.
use Rattle.std.proofs.Common.{◌≡◌, ◌<◌, Some, length, sym, rules}
use Rattle.std.specs.Prelude.{slice_get}
use Rattle.coff_read.specs.BigObjectFile.{big_file_of, big_section_headers}
use Rattle.pe_records_c.specs.ObjectHeaderRows.{section_header_row}
use Rattle.pe_records_c.proofs.Rows.{told_step, rest_step}
use Rattle.c_tables.proofs.header.fill_headers.Goals as goal

pub loop-index-preserved : goal.loop-index-preserved
loop-index-preserved c =
    let i = c.loop-index.invariant in
    let table = big_section_headers (big_file_of c.args.object.now) in
    let under : c.loop-index.index < length c.loop-index.rows = search rules in
    let is : slice_get table c.loop-index.index ≡ Some c.unwrap.result = sym (rw c.unwrap.ensures at c.section_header.ensures) in
    record {
      told = told_step (λ r. r) section_header_row table c.loop-index.rows c.loop-index.index _ c.of.result under is c.of.ensures i.told;
      others = rest_step c.loop-index.rows c.args.rows.now c.loop-index.index c.of.result i.others;
    }
