use Rattle.std.proofs.Common.{◌∙◌, sym}
use Rattle.coff_archive_page.specs.ArchiveJudged.{IsArchiveJudged}
use Rattle.pe_page.specs.Judged.{IsJudged}
use Rattle.petool_page.specs.Pages.{is_archive}
use Rattle.petool_page.proofs.ByKind.{puts_first, puts_second}
use Rattle.petool_page.proofs.Numbered.{keeps_number, puts_bytes}
use Rattle.petool_page.proofs.engines.page_into.Goals as goal

pub returns-then-is_archive-clause-same : goal.returns-then-is_archive-clause-same
returns-then-is_archive-clause-same c = keeps_number _ _ _ _ _ _ _ _ c.show_archive_text.ensures.puts

pub returns-then-is_archive-clause-puts : goal.returns-then-is_archive-clause-puts
returns-then-is_archive-clause-puts c =
    let file = c.args.file.now in
    puts_first (IsArchiveJudged file) (IsJudged file) _ _ _ _ _ (is_archive file) (sym c.is_archive.ensures ∙ c.if-is_archive.true)
    (puts_bytes _ _ _ _ _ _ _ _ c.show_archive_text.ensures.puts)

pub returns-else-is_archive-clause-same : goal.returns-else-is_archive-clause-same
returns-else-is_archive-clause-same c = keeps_number _ _ _ _ _ _ _ _ c.show_page_text.ensures.puts

pub returns-else-is_archive-clause-puts : goal.returns-else-is_archive-clause-puts
returns-else-is_archive-clause-puts c =
    let file = c.args.file.now in
    puts_second (IsArchiveJudged file) (IsJudged file) _ _ _ _ _ (is_archive file) (sym c.is_archive.ensures ∙ c.if-is_archive.false)
    (puts_bytes _ _ _ _ _ _ _ _ c.show_page_text.ensures.puts)
