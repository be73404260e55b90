use Rattle.std.proofs.Common.{rules, ◌∙◌}
use borrow.Author.Tests.{tests}
use Rattle.std.proofs.lemmas.Iterator.{YieldsList-from_slice}
use Rattle.std.proofs.lemmas.Iterator.Search.{any_from_yields_List}
use Rattle.coff_read.proofs.Mapped.{any-map}
use Rattle.coff_object.specs.NeededForm.{is_past_plain}
use Rattle.coff_object.proofs.needed_form.any_past_plain.Goals as goal

pub returns : goal.returns
returns g c =
    any_from_yields_List (λ s. is_past_plain (g.S.WideSymbol.view s)) _ _ _ c.any.ensures.ran (YieldsList-from_slice c.args.symbols.now cc) (λ x b q k. search (rules, tests))
    ∙ any-map g.S.WideSymbol.view is_past_plain c.args.symbols.now
