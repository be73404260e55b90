use Rattle.std.proofs.Common.{rules, ◌∙◌, sym}
use Rattle.petool_page.proofs.Answered.{failed, told}
use Rattle.petool_page.proofs.show.petool_page_at.Goals as goal

pub returns-clause-told : goal.returns-clause-told
returns-clause-told c =
    told _ _ _ _ _ _ _ _ _ c.spots_into-answer.ensures.puts c.new-writer.ensures.taken c.new-writer.ensures.failures (search rules) (c.from.ensures ∙ c.status.ensures)

pub returns-clause-full : goal.returns-clause-full
returns-clause-full c three =
    let full = c.len.ensures.full (failed _ _ _ _ _ _ c.spots_into-answer.ensures.puts (sym (c.from.ensures ∙ c.status.ensures) ∙ three)) in
    search rules
