use Rattle.std.proofs.Common.{rules, ◌∙◌}
use borrow.Author.Tests.{tests}
use Rattle.std.proofs.lemmas.Iterator.{YieldsList-from_slice}
use Rattle.std.proofs.lemmas.Iterator.Search.{any_from_yields_List}
use Rattle.coff_read.specs.ObjectView.{section_view}
use Rattle.coff_read.specs.Form.{is_bad_section}
use Rattle.coff_read.proofs.Mapped.{any-map}
use Rattle.coff_read.proofs.form.any_bad_section.Goals as goal

pub returns : goal.returns
returns g c =
    any_from_yields_List (λ s. is_bad_section c.args.records (section_view s)) _ _ _ c.any.ensures.ran (YieldsList-from_slice c.args.sections.now cc) (λ x b q k. search (rules, tests))
    ∙ any-map section_view (is_bad_section c.args.records) c.args.sections.now
