use Rattle.json.specs.Print.{escape_byte}
use Rattle.pe_text.proofs.Adding.{◌then◌}
use Rattle.pe_json.specs.JsonText.{member}
use Rattle.pe_json.specs.Listed.{more}
use Rattle.pe_json.specs.ObjectLine.{symbol_fields}
use Rattle.pe_json.proofs.Objects.{ended}
use Rattle.pe_json.proofs.symbols.write_fields.Goals as goal

pub returns : goal.returns
unfolding symbol_fields more member escape_byte
returns g c = c.write_number.ensures then (c.write_section.ensures then (c.write_number-2.ensures then (ended c.write_number-3.ensures)))
