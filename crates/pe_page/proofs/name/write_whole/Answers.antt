use Rattle.std.proofs.Common.{◌∙◌, sym}
use Rattle.pe_page.specs.Name.{whole_text}
use Rattle.pe_page.proofs.name.write_whole.Goals as goal

pub returns-then-is_plain : goal.returns-then-is_plain
unfolding whole_text
returns-then-is_plain g c = rw (sym c.is_plain.ensures ∙ c.if-is_plain.true) c.text.ensures

pub returns-else-is_plain : goal.returns-else-is_plain
unfolding whole_text
returns-else-is_plain g c = rw (sym c.is_plain.ensures ∙ c.if-is_plain.false) c.quoted.ensures
