use Rattle.json.specs.Print.{escape_byte}
use Rattle.pe_text.proofs.Adding.{◌then◌}
use Rattle.pe_json.specs.JsonText.{member, list}
use Rattle.pe_json.specs.Listed.{more}
use Rattle.pe_json.specs.ObjectLine.{relocations_members}
use Rattle.pe_json.proofs.Objects.{ended}
use Rattle.pe_json.proofs.object_sections.write_relocation_list.Goals as goal

pub returns : goal.returns
unfolding relocations_members more member list escape_byte
returns g c = ended (c.text.ensures then (c.write_relocations.ensures then c.text-2.ensures))
