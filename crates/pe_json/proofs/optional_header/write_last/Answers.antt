use Rattle.json.specs.Print.{escape_byte}
use Rattle.pe_text.proofs.Adding.{◌then◌}
use Rattle.pe_json.specs.JsonText.{member, list}
use Rattle.pe_json.specs.Listed.{more}
use Rattle.pe_json.specs.Headers.{last_members}
use Rattle.pe_json.proofs.Objects.{ended}
use Rattle.pe_json.proofs.optional_header.write_last.Goals as goal

pub returns : goal.returns
unfolding last_members more member list escape_byte
returns g c =
    c.write_number.ensures then (c.write_flags.ensures then (c.write_wide.ensures then (c.write_wide-2.ensures then (c.write_wide-3.ensures then (c.write_wide-4.ensures then (c.write_number-2.ensures then (ended c.write_number-3.ensures)))))))
