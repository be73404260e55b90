use Rattle.std.proofs.Common.{refl, codes}
use Rattle.json.specs.Print.{escape_byte}
use Rattle.pe_json.proofs.Objects.{also, number_given}
use Rattle.pe_json.proofs.tls.write_fields.Goals as goal

pub returns : goal.returns
unfolding escape_byte
returns g c =
    let size = rw (number_given _ (codes "size_of_zero_fill") _ refl) at c.write_number_if.ensures in
    let flags = rw (number_given _ (codes "characteristics") _ refl) at c.write_number_if-2.ensures in
    also _ _ c.write_addresses.ensures (also _ _ size flags)
