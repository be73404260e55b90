use Rattle.pe_text.proofs.Adding.{◌then◌}
use Rattle.pe_json.proofs.utf16.write_units.Goals as goal

pub returns : goal.returns
returns g c = c.text.ensures then ((rw c.decode_utf16.ensures at c.write_characters.ensures) then c.text-2.ensures)

pub returns-then-has_failed : goal.returns-then-has_failed
returns-then-has_failed g c = c.has_failed.ensures.ends c.if-has_failed.true _
