use Rattle.std.proofs.Common.{◌∙◌, codes, sym}
use Rattle.json.specs.Print.{escape_byte}
use Rattle.pe_json.specs.JsonText.{member, number}
use Rattle.pe_json.specs.Listed.{more}
use Rattle.pe_json.specs.VersionRows.{version_at}
use Rattle.pe_json.proofs.Objects.{adds_none, ended, object_after}
use Rattle.pe_json.proofs.version.write_version.Goals as goal

pub returns : goal.returns
unfolding version_at more member escape_byte
returns g c =
    let found = sym c.version.ensures ∙ c.in-Some.is in
    let rest = rw c.leaf_data.ensures.value at c.write_version_data.ensures in
    rw found (ended (object_after (codes ",\"version\":") (number (codes "rva") c.in-Some.leaf.rva) _ c.write_number.ensures rest c.text.ensures))

pub returns-in_default : goal.returns-in_default
unfolding version_at more
returns-in_default g c = rw (sym c.version.ensures ∙ c.in_default.is) (adds_none c.requires)
