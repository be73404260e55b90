use Rattle.json.specs.Print.{escape_byte}
use Rattle.pe_text.proofs.Adding.{◌then◌}
use Rattle.pe_json.specs.JsonText.{member}
use Rattle.pe_json.specs.Listed.{more}
use Rattle.pe_json.specs.BigHeader.{big_numbers}
use Rattle.pe_json.proofs.Objects.{ended}
use Rattle.pe_json.proofs.big_header.write_big_numbers.Goals as goal

pub returns : goal.returns
unfolding big_numbers more member escape_byte
returns g c =
    c.write_number.ensures then (c.write_number-2.ensures then (c.write_number-3.ensures then (c.write_number-4.ensures then (c.write_number-5.ensures then (c.write_number-6.ensures then (c.write_number-7.ensures then (c.write_number-8.ensures then (ended c.write_number-9.ensures))))))))
