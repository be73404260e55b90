use Rattle.std.proofs.Common.{◌∙◌, sym}
use Rattle.json.specs.Print.{escape_byte}
use Rattle.pe_text.proofs.Adding.{◌then◌}
use Rattle.pe_json.specs.JsonText.{member, list}
use Rattle.pe_json.specs.Listed.{more}
use Rattle.pe_json.specs.DebugRows.{debug_members_at}
use Rattle.pe_json.proofs.Objects.{adds_none, ended}
use Rattle.pe_json.proofs.debug.write_debug.Goals as goal

pub returns : goal.returns
unfolding debug_members_at more member list escape_byte
returns g c =
    let is = sym c.directory.ensures ∙ c.in-Some.is in
    rw is (ended (c.text.ensures then (c.write_entries.ensures then c.text-2.ensures)))

pub returns-in_default : goal.returns-in_default
unfolding debug_members_at more
returns-in_default g c = let is = sym c.directory.ensures ∙ c.in_default.is in rw is (adds_none c.requires)
