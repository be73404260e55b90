use Rattle.std.proofs.Common.{rules, ◌∙◌, ap, arith, sym}
use Rattle.pe_text.specs.Outcome.{status_of}
use Rattle.petool_page.proofs.Answered.{failed, told, told_nothing}
use Rattle.petool_page.proofs.map.petool_page_map.Goals as goal
use Rattle.petool_page.proofs.map.petool_page_map.Goals.{in-Ok, in-Err}

pub returns-clause-told : goal.returns-clause-told
returns-clause-told c =
    let is = c.from.ensures ∙ c.status.ensures in
    elim c.match-entries_in.branch [
      | in-Ok w ↦
          let puts = rw (w.policy_of.ensures, w.window_of-window.ensures, w.deref.ensures.value, w.in-Ok.ensures.entries) at w.report_into-answer.ensures.puts in
          told _ _ _ _ _ _ _ _ _ puts c.new-writer.ensures.taken c.new-writer.ensures.failures (search rules) (is ∙ ap status_of w.answer-is)
      | in-Err w ↦ told_nothing _ _ _ _ (search rules) (is ∙ ap status_of w.answer-is)
    ]

pub returns-clause-full : goal.returns-clause-full
returns-clause-full c three =
    let is = c.from.ensures ∙ c.status.ensures in
    elim c.match-entries_in.branch [
      | in-Ok w ↦
          let some = failed _ _ _ _ _ _ w.report_into-answer.ensures.puts (sym (is ∙ ap status_of w.answer-is) ∙ three) in
          let full = c.len.ensures.full (rw w.writer-is some) in
          search rules
      | in-Err w ↦ absurd (omega (arith, three, is ∙ ap status_of w.answer-is))
    ]
