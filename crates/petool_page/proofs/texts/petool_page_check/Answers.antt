use Rattle.std.proofs.Common.{rules, ◌∙◌, sym}
use Rattle.petool_page.proofs.Answered.{failed}
use Rattle.petool_page.proofs.texts.petool_page_check.Goals as goal

pub returns-clause-full : goal.returns-clause-full
returns-clause-full c three =
    let full = c.len.ensures.full (failed _ _ _ _ _ _ c.check_into-answer.ensures.puts (sym (c.from.ensures ∙ c.status.ensures) ∙ three)) in
    search rules
