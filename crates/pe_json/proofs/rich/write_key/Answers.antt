use Rattle.json.specs.Print.{escape_byte}
use Rattle.pe_text.proofs.Adding.{◌then◌}
use Rattle.pe_json.specs.JsonText.{member}
use Rattle.pe_json.specs.Listed.{more}
use Rattle.pe_json.specs.RichRows.{key_members}
use Rattle.pe_json.proofs.Objects.{ended}
use Rattle.pe_json.proofs.rich.write_key.Goals as goal

pub returns : goal.returns
unfolding key_members more member escape_byte
returns g c =
    let key = rw c.key.ensures at c.write_number.ensures in
    let fits = rw (c.fits_member.ensures, c.key-2.ensures, c.check_sum.ensures) at c.text.ensures in
    key then (ended fits)
