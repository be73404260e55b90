-- The beginning is shown as the name is.
use Rattle.std.proofs.Common.{◌∙◌, ap}
use Rattle.pe_page.specs.Name.{section_text}
use Rattle.pe_page.proofs.Beginnings.{shown_alike}
use Rattle.pe_page.proofs.name.section_beginning.Goals as goal

pub returns-clause-shown : goal.returns-clause-shown
unfolding section_text
returns-clause-shown c = ap section_text c.beginning.ensures ∙ shown_alike 40 c.args.name.now
