-- The beginning is shown as the name is.
use Rattle.std.proofs.Common.{◌∙◌, ap}
use Rattle.pe_page.specs.Name.{cut_text}
use Rattle.pe_page.proofs.Beginnings.{shown_alike}
use Rattle.pe_page.proofs.name.module_beginning.Goals as goal

pub returns-clause-shown : goal.returns-clause-shown
returns-clause-shown c = ap (cut_text 255) c.beginning.ensures ∙ shown_alike 255 c.args.name.now
