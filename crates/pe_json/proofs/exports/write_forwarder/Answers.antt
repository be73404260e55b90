use Rattle.std.proofs.Common.{refl, codes}
use Rattle.json.specs.Print.{escape_byte}
use Rattle.pe_text.proofs.Adding.{◌then◌}
use Rattle.pe_json.specs.JsonText.{member, object, with_commas}
use Rattle.pe_json.specs.Listed.{more}
use Rattle.pe_json.specs.ExportRows.{target_members}
use Rattle.pe_json.proofs.Objects.{named, ended}
use Rattle.pe_json.proofs.exports.write_forwarder.Goals as goal

pub returns : goal.returns
unfolding target_members more object with_commas member escape_byte
returns g c =
    let name = rw (named _ (codes ",\"forward\":{") (codes "module") _ _ _ refl refl) at c.write_name.ensures in
    ended (name then (c.text.ensures then c.write_key.ensures) then c.text-2.ensures)
