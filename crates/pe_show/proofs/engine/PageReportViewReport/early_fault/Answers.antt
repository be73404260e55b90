use Rattle.pe_page.proofs.Outcomes.{page_refused}
use Rattle.pe_show.proofs.engine.PageReportViewReport.early_fault.Goals as goal

pub returns : goal.returns
returns c = page_refused c.args.len c.args.begin.now c.view_fault.result c.view_fault.ensures.refuses
