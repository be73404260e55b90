use Rattle.std.proofs.Common.{◌∙◌, ◌++◌, codes, sym, append_assoc}
use Rattle.json.specs.Print.{quoted, escape_byte}
use Rattle.pe_text.proofs.Adding.{◌then◌}
use Rattle.pe_json.specs.JsonText.{member, number}
use Rattle.pe_json.specs.Listed.{more}
use Rattle.pe_json.specs.StructureRows.{structure_key, structure_members_at}
use Rattle.pe_json.proofs.Objects.{adds_none, ended, object_after}
use Rattle.pe_json.proofs.structure.write_structure.Goals as goal

pub returns : goal.returns
unfolding structure_members_at more member escape_byte
returns g c =
    let key = quoted (structure_key c.args.kind) ++ codes ":" in
    let rva = number (codes "rva") c.in-Some.directory.rva in
    let begun = (rw c.member_begin.ensures at c.text.ensures) then c.write_number.ensures in
    let first = rw (append_assoc key (codes "{") rva) at begun in
    rw (← c.index_of.ensures) (rw (sym c.directory.ensures ∙ c.in-Some.is) (ended (object_after (codes "," ++ key) rva _ first c.write_fields_of.ensures c.text-2.ensures)))

pub returns-in_default : goal.returns-in_default
unfolding structure_members_at more
returns-in_default g c = rw (← c.index_of.ensures) (rw (sym c.directory.ensures ∙ c.in_default.is) (adds_none c.requires))
