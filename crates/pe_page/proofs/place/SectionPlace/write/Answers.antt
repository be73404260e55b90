use Rattle.std.proofs.Common.{append-nil}
use Rattle.pe_text.proofs.Adding.{◌then◌}
use Rattle.pe_page.specs.Rows.{place_text}
use Rattle.pe_page.proofs.place.SectionPlace.write.Goals as goal

pub returns-in-Some : goal.returns-in-Some
unfolding place_text
returns-in-Some g c = rw c.in-Some.is (c.write_section_name.ensures then (c.text.ensures then c.hex_at_least.ensures))

pub returns-in_default : goal.returns-in_default
unfolding place_text
returns-in_default g c = rw (c.in_default.is, append-nil) c.write_section_name.ensures
