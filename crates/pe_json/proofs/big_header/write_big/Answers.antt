use Rattle.std.proofs.Common.{refl, codes}
use Rattle.json.specs.Print.{escape_byte}
use Rattle.pe_json.specs.JsonText.{member, number}
use Rattle.pe_json.proofs.Objects.{texted, also, listed}
use Rattle.pe_json.proofs.big_header.write_big.Goals as goal

pub returns : goal.returns
unfolding member escape_byte
returns g c =
    let name = rw c.machine_name.ensures at (rw (texted _ (codes "machine_name") _ refl) at c.write_text_if.ensures) in
    listed (number (codes "machine") c.args.header.now.machine) _ c.write_number.ensures (also _ _ name c.write_big_numbers.ensures)
