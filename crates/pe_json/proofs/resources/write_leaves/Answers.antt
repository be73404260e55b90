use Rattle.std.proofs.Common.{◌∙◌, sym}
use Rattle.json.specs.Print.{escape_byte}
use Rattle.pe_text.proofs.Adding.{◌then◌}
use Rattle.pe_json.specs.JsonText.{member, list}
use Rattle.pe_json.specs.Listed.{more}
use Rattle.pe_json.specs.ResourceRows.{leaves_members}
use Rattle.pe_json.proofs.Objects.{adds_none, ended}
use Rattle.pe_json.proofs.resources.write_leaves.Goals as goal

pub returns : goal.returns
unfolding leaves_members more member list escape_byte
returns g c =
    let is = sym c.directory.ensures ∙ c.in-Some.is in
    rw is (ended (c.text.ensures then (c.write_each_leaf.ensures then c.text-2.ensures)))

pub returns-in_default : goal.returns-in_default
unfolding leaves_members more
returns-in_default g c = let is = sym c.directory.ensures ∙ c.in_default.is in rw is (adds_none c.requires)
