use Rattle.std.proofs.Common.{rules, ◌≡◌, true}
use Rattle.std.specs.List.{list_all}
use Rattle.std.specs.Str.{chars}
use Rattle.std.proofs.lemmas.Str.{is_utf8-from_IsUtf8}
use Rattle.pe_page.specs.Name.{begins_plain, is_safe}
use Rattle.pe_page.proofs.Names.{other_is_not_plain}
use Rattle.pe_page.proofs.name.plain_text.Goals as goal

pub returns-in_default-clause-none : goal.returns-in_default-clause-none
returns-in_default-clause-none c = other_is_not_plain c.args.name.now c.in_default.ensures.cases.0

pub returns-clause-some : goal.returns-clause-some
returns-clause-some c =
    let name = c.args.name.now in
    let same = c.in-Ok.ensures.cases.0 in
    let begins : begins_plain name ≡ true = search rules in
    let safe : list_all is_safe (chars c.in-Ok.text.now) ≡ true = search rules in
    let safe_name : list_all is_safe (chars name) ≡ true = rw same at safe in
    (same, rw (begins, is_utf8-from_IsUtf8 name c.in-Ok.ensures.cases.1) safe_name)
