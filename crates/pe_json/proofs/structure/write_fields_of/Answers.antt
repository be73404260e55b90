use Rattle.std.proofs.Common.{◌∙◌, sym, ap}
use Rattle.std.specs.Prelude.{option_map}
use Rattle.pe_records.specs.declared.structure.Structure.{Structure}
use Rattle.pe_view.specs.View.{bytes_of}
use Rattle.pe_json.specs.Listed.{more}
use Rattle.pe_json.proofs.Objects.{adds_none}
use Rattle.pe_json.proofs.structure.write_fields_of.Goals as goal

pub returns : goal.returns
returns g c =
    let held = sym c.structure_of.ensures.bytes ∙ ap (option_map (λ (structure : Structure). bytes_of structure.bytes)) c.in-Some.is in
    let width = rw c.in-Some.is at c.structure_of.ensures.width in
    rw (held, ← width) c.write_fields.ensures

pub returns-in_default : goal.returns-in_default
unfolding more
returns-in_default g c =
    let held = sym c.structure_of.ensures.bytes ∙ ap (option_map (λ (structure : Structure). bytes_of structure.bytes)) c.in_default.is in
    rw held (adds_none c.requires)
