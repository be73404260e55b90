use Rattle.std.proofs.Common.{◌∙◌, sym, ap}
use Rattle.std.specs.Prelude.{option_map}
use Rattle.json.specs.Print.{escape_byte}
use Rattle.pe_records.specs.CallbackView.{callback_table}
use Rattle.pe_text.proofs.Adding.{◌then◌}
use Rattle.pe_json.specs.JsonText.{member, list}
use Rattle.pe_json.specs.Listed.{more}
use Rattle.pe_json.specs.TlsRows.{callback_members}
use Rattle.pe_json.proofs.Objects.{adds_none, ended}
use Rattle.pe_json.proofs.tls.write_callbacks.Goals as goal

pub returns : goal.returns
unfolding callback_members more member list escape_byte
returns g c =
    let is = sym c.of.ensures ∙ ap (option_map callback_table) c.in-Some.is in
    rw is (ended (c.text.ensures then (c.write_each_callback.ensures then c.text-2.ensures)))

pub returns-in_default : goal.returns-in_default
unfolding callback_members more
returns-in_default g c =
    let is = sym c.of.ensures ∙ ap (option_map callback_table) c.in_default.is in
    rw is (adds_none c.requires)
