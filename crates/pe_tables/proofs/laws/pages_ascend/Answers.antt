use Rattle.pe_tables.proofs.Decoded.{pages-all}
use Rattle.pe_tables.proofs.Pages.{pages_ascend, pages_own}
use Rattle.pe_tables.proofs.laws.pages_ascend.Goals as goal

pub returns-clause-ascend : goal.returns-clause-ascend
returns-clause-ascend c = pages_ascend

pub returns-clause-own : goal.returns-clause-own
returns-clause-own c = pages_own

pub returns-clause-order : goal.returns-clause-order
returns-clause-order c = pages-all
