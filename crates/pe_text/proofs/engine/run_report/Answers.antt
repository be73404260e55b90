use Rattle.pe_text.proofs.Reports.{Ran-unread}
use Rattle.pe_text.proofs.engine.run_report.Goals as goal

pub returns-in_err-file-clause-ran : goal.returns-in_err-file-clause-ran
returns-in_err-file-clause-ran g c =
    Ran-unread g.T.Report.is_text _ _ _ _ _ _ _ c.from_residual.result c.from_residual.ensures.1 (rw c.in_err-file.was at c.read_whole.ensures)
