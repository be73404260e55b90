use Rattle.std.proofs.Common.{refl, codes}
use Rattle.json.specs.Print.{escape_byte}
use Rattle.pe_json.proofs.Objects.{texted, also}
use Rattle.pe_json.proofs.optional_header.write_optional.Goals as goal

pub returns : goal.returns
unfolding escape_byte
returns g c =
    let name = rw c.subsystem_name.ensures at (rw (texted _ (codes "subsystem_name") _ refl) at c.write_text_if.ensures) in
    also _ _ c.write_standard.ensures (also _ _ c.write_base_of_data.ensures (also _ _ c.write_versions.ensures (also _ _ c.write_sizes.ensures (also _ _ name c.write_last.ensures))))
