use Rattle.std.proofs.Common.{rules, ◌∙◌}
use borrow.Author.Tests.{tests}
use Rattle.std.proofs.lemmas.Iterator.{YieldsList-from_slice}
use Rattle.std.proofs.lemmas.Iterator.Search.{position_from_yields_List}
use Rattle.coff_read.specs.Records.{Symbol}
use Rattle.coff_object.specs.WriteFaults.{has_zero}
use Rattle.coff_object.proofs.Mapped.{position-map}
use Rattle.coff_object.proofs.refusal.zero_in_symbols.Goals as goal

pub returns : goal.returns
returns g c =
    position_from_yields_List (λ s. has_zero (g.S.WideSymbol.view s).name) _ _ _ c.position.ensures.ran (YieldsList-from_slice c.args.symbols.now cc) (λ x b q k. search (rules, tests))
    ∙ position-map g.S.WideSymbol.view (λ (s : Symbol). has_zero s.name) c.args.symbols.now
