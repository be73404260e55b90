use Rattle.pe_text.proofs.Adding.{◌then◌}
use Rattle.pe_json.specs.JsonText.{object}
use Rattle.pe_json.specs.Headers.{file_header, coff_members, optional_members}
use Rattle.pe_json.proofs.Objects.{items_more}
use Rattle.std.proofs.Common.{true}
use Rattle.pe_json.proofs.image.write_fields.Goals as goal

pub returns : goal.returns
unfolding object
returns g c = rw (items_more true (coff_members (file_header c.args.headers.now)) (optional_members c.args.headers.now))
    (c.text.ensures then (c.write_coff.ensures then c.write_optional.ensures) then c.text-2.ensures)
