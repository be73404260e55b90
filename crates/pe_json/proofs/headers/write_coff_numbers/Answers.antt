use Rattle.json.specs.Print.{escape_byte}
use Rattle.pe_text.proofs.Adding.{◌then◌}
use Rattle.pe_json.specs.JsonText.{member, list}
use Rattle.pe_json.specs.Listed.{more}
use Rattle.pe_json.specs.Headers.{coff_numbers}
use Rattle.pe_json.proofs.Objects.{ended}
use Rattle.pe_json.proofs.headers.write_coff_numbers.Goals as goal

pub returns : goal.returns
unfolding coff_numbers more member list escape_byte
returns g c =
    c.write_number.ensures then (c.write_number-2.ensures then (c.write_number-3.ensures then (c.write_number-4.ensures then (c.write_number-5.ensures then (c.write_number-6.ensures then (ended c.write_flags.ensures))))))
