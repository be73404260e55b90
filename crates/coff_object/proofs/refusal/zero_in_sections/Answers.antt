use Rattle.std.proofs.Common.{rules, ◌∙◌}
use borrow.Author.Tests.{tests}
use Rattle.std.proofs.lemmas.Iterator.{YieldsList-from_slice}
use Rattle.std.proofs.lemmas.Iterator.Search.{position_from_yields_List}
use Rattle.coff_read.specs.ObjectView.{section_view}
use Rattle.coff_read.specs.Records.{Section}
use Rattle.coff_object.specs.WriteFaults.{has_zero}
use Rattle.coff_object.proofs.Mapped.{position-map}
use Rattle.coff_object.proofs.refusal.zero_in_sections.Goals as goal

pub returns : goal.returns
returns g c =
    position_from_yields_List (λ s. has_zero s.name.now) _ _ _ c.position.ensures.ran (YieldsList-from_slice c.args.sections.now cc) (λ x b q k. search (rules, tests))
    ∙ position-map section_view (λ (s : Section). has_zero s.name) c.args.sections.now
