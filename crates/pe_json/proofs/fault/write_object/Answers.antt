use Rattle.std.proofs.Common.{codes}
use Rattle.json.specs.Print.{escape_byte}
use Rattle.pe_json.specs.JsonText.{member, number}
use Rattle.pe_json.proofs.Objects.{also, objects}
use Rattle.pe_json.proofs.fault.write_object.Goals as goal

pub returns : goal.returns
unfolding member escape_byte
returns g c =
    objects (number (codes "number") c.args.fault.now.number) _ c.write_number.ensures
    (also _ _ c.write_places.ensures (also _ _ c.write_words.ensures c.write_values.ensures)) c.text.ensures
