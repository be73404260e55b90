use Rattle.pe_page.proofs.Outcomes.{place_refused}
use Rattle.pe_at.proofs.at_engine.AtReportViewReport.early_fault.Goals as goal

pub returns : goal.returns
returns c = place_refused c.args.len c.args.begin.now c.early_fault.result c.early_fault.ensures.refuses
