use Rattle.std.proofs.Common.{◌∙◌, sym}
use Rattle.coff_archive_json.specs.ArchiveJson.{IsArchiveJson}
use Rattle.pe_json.specs.JsonReport.{IsLineOf}
use Rattle.petool_page.specs.Pages.{is_archive}
use Rattle.petool_page.proofs.ByKind.{puts_first, puts_second}
use Rattle.petool_page.proofs.Numbered.{keeps_number, puts_bytes}
use Rattle.petool_page.proofs.engines.lines_into.Goals as goal

pub returns-then-is_archive-clause-same : goal.returns-then-is_archive-clause-same
returns-then-is_archive-clause-same c = keeps_number _ _ _ _ _ _ _ _ c.archive_json_text.ensures.puts

pub returns-then-is_archive-clause-puts : goal.returns-then-is_archive-clause-puts
returns-then-is_archive-clause-puts c =
    let file = c.args.file.now in
    let name = c.args.name.now in
    puts_first (IsArchiveJson name file) (IsLineOf c.args.beyond name file) _ _ _ _ _ (is_archive file) (sym c.is_archive.ensures ∙ c.if-is_archive.true)
    (puts_bytes _ _ _ _ _ _ _ _ c.archive_json_text.ensures.puts)

pub returns-else-is_archive-clause-same : goal.returns-else-is_archive-clause-same
returns-else-is_archive-clause-same c = keeps_number _ _ _ _ _ _ _ _ c.print_line.ensures.puts

pub returns-else-is_archive-clause-puts : goal.returns-else-is_archive-clause-puts
returns-else-is_archive-clause-puts c =
    let file = c.args.file.now in
    let name = c.args.name.now in
    let line = rw (c.whole.ensures.seen, c.whole.ensures.told) at c.print_line.ensures.puts in
    puts_second (IsArchiveJson name file) (IsLineOf c.args.beyond name file) _ _ _ _ _ (is_archive file) (sym c.is_archive.ensures ∙ c.if-is_archive.false)
    (puts_bytes _ _ _ _ _ _ _ _ line)

pub returns-else-is_archive-clause-memory : goal.returns-else-is_archive-clause-memory
returns-else-is_archive-clause-memory c = rw c.whole.ensures.seen at c.print_line.ensures.memory
