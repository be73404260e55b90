use Rattle.std.proofs.Common.{◌∙◌, sym}
use Rattle.pe_text.proofs.Adding.{◌then◌}
use Rattle.pe_json.specs.JsonText.{member}
use Rattle.pe_json.specs.Listed.{more}
use Rattle.pe_json.specs.StructureRows.{value_members}
use Rattle.pe_json.proofs.Objects.{adds_none, ended}
use Rattle.pe_json.proofs.structure.write_field.Goals as goal

pub returns : goal.returns
unfolding value_members more member
returns g c =
    let key = rw c.as_bytes.ensures.value at c.write_quoted.ensures in
    rw (sym c.field.ensures ∙ c.in-Some.is) (ended (c.text.ensures then ((key then c.text-2.ensures) then c.write_value.ensures)))

pub returns-in_default : goal.returns-in_default
unfolding value_members more
returns-in_default g c = rw (sym c.field.ensures ∙ c.in_default.is) (adds_none c.requires)
