use Rattle.pe_text.proofs.Reports.{Ran-unread}
use Rattle.coff_archive_json.specs.ArchiveJson.{IsArchiveJson}
use Rattle.coff_archive_json.proofs.engine.archive_json.Goals as goal

pub returns-in_err-file-clause-ran : goal.returns-in_err-file-clause-ran
returns-in_err-file-clause-ran g c =
    Ran-unread (IsArchiveJson c.args.name.now) _ _ _ _ _ _ _ c.from_residual.result c.from_residual.ensures.1 (rw c.in_err-file.was at c.read_whole.ensures)
