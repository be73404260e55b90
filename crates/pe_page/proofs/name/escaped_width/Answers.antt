use Rattle.std.proofs.Common.{◌∙◌, sym, refl}
use Rattle.pe_text.specs.Text.{escaped, hex}
use Rattle.pe_page.proofs.name.escaped_width.Goals as goal

pub returns-then-is_plain-clause-value : goal.returns-then-is_plain-clause-value
unfolding escaped
returns-then-is_plain-clause-value c = rw (sym c.is_plain.ensures ∙ c.if-is_plain.true) refl

pub returns-else-is_plain-clause-value : goal.returns-else-is_plain-clause-value
unfolding escaped hex
returns-else-is_plain-clause-value c = rw (sym c.is_plain.ensures ∙ c.if-is_plain.false) refl
