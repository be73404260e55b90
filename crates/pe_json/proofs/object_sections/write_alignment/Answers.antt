use Rattle.std.proofs.Common.{◌∙◌, sym}
use Rattle.json.specs.Print.{escape_byte}
use Rattle.pe_json.specs.JsonText.{member, number_if}
use Rattle.pe_json.specs.Listed.{more}
use Rattle.pe_json.proofs.Objects.{adds_none, ended}
use Rattle.pe_json.proofs.object_sections.write_alignment.Goals as goal

pub returns-in_default : goal.returns-in_default
unfolding number_if more
returns-in_default g c = rw (sym c.section_alignment.ensures ∙ c.in_default.is) (adds_none c.requires)

pub returns : goal.returns
unfolding number_if more member escape_byte
returns g c = rw (sym c.section_alignment.ensures ∙ c.in-Some.is) (ended c.write_number.ensures)
