use Rattle.pe_page.specs.Name.{whole_text}
use Rattle.pe_page.proofs.name.show_beginning.Goals as goal

pub returns-in-Some : goal.returns-in-Some
unfolding whole_text
returns-in-Some g c = rw (← c.cut-name.ensures, c.in-Some.ensures.some.1, ← c.in-Some.ensures.some.0) c.write_str.ensures.writes

pub returns-in-None : goal.returns-in-None
unfolding whole_text
returns-in-None g c = rw (← c.cut-name.ensures, c.in-None.ensures.none) c.write_quoted.ensures
