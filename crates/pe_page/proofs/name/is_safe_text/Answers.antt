use Rattle.std.proofs.Common.{◌≡◌, sym}
use Rattle.std.specs.List.{list_all}
use Rattle.std.specs.Str.{chars}
use Rattle.std.proofs.lemmas.Str.{is_utf8-from_IsUtf8}
use Rattle.pe_page.specs.Name.{is_safe}
use Rattle.pe_page.proofs.Names.{other_is_not_safe}
use Rattle.pe_page.proofs.name.is_safe_text.Goals as goal

pub returns-in-Ok : goal.returns-in-Ok
returns-in-Ok c =
    let text = c.args.text.now in
    let safe : c.are_safe.result ≡ list_all is_safe (chars text) = rw c.in-Ok.ensures.cases.0 at c.are_safe.ensures in
    rw (is_utf8-from_IsUtf8 text c.in-Ok.ensures.cases.1) safe

pub returns-in-Err : goal.returns-in-Err
returns-in-Err c = sym (other_is_not_safe c.args.text.now c.in-Err.ensures.cases.0)
