use Rattle.std.proofs.Common.{◌∙◌, sym}
use Rattle.pe_page.proofs.Names.{bare_is_plain}
use Rattle.pe_page.proofs.name.is_plain.Goals as goal

pub returns-then-is_bare : goal.returns-then-is_bare
returns-then-is_bare c = c.if-is_bare.true ∙ sym (bare_is_plain c.args.name.now (sym c.is_bare.ensures ∙ c.if-is_bare.true))
