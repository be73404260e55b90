use Rattle.std.proofs.Common.{rules, ◌≡◌, ◌∙◌, ℕ, List, Some, ap, sym, take}
use Rattle.pe_view.specs.Faults.{first_standing}
use Rattle.pe_text.specs.declared.outcome.Outcome.{Outcome}
use Rattle.pe_text.specs.Engine.{IsRefusal}
use Rattle.pe_write.specs.RebaseFaults.{rebase_tests}
use Rattle.petool_page.specs.Rebasing.{IsRefused}
use Rattle.petool_page.specs.Room.{room_of}
use Rattle.petool_page.proofs.Answered.{failed, told, puts_none, puts_other, refuses}
use Rattle.petool_page.proofs.rebase.petool_page_rebase.Goals as goal

pub returns-in-Err-Fault-clause-refused : goal.returns-in-Err-Fault-clause-refused
returns-in-Err-Fault-clause-refused c ended =
    let fault = c.in-Err-Fault.fault in
    let tests = rebase_tests c.args.file.now c.args.base in
    let standing : first_standing tests ≡ Some fault = rw c.in-Err-Fault.field-0-is at c.in-Err-Fault.ensures.exact in
    let of_first : (outcome : Outcome) (text : List ℕ) → IsRefusal fault outcome text → IsRefused tests outcome text = λ outcome text is. (fault, (standing, is)) in
    let puts = puts_other (IsRefusal fault) (IsRefused tests) of_first _ _ _ _ _ c.refuse_into-answer.ensures.puts in
    told _ _ _ _ _ _ _ _ _ puts c.new-writer.ensures.taken c.new-writer.ensures.failures (search rules) (c.from.ensures ∙ c.status.ensures)

pub returns-in-Err-Fault-clause-empty : goal.returns-in-Err-Fault-clause-empty
returns-in-Err-Fault-clause-empty c ended =
    let room = room_of c.refuse_into-answer.new.writer in
    let taken = ap (λ (len : ℕ). take len room) c.len.ensures.len in
    let ended' = rw (c.from.ensures ∙ c.status.ensures) at ended in
    puts_none c.in-Err-Fault.fault room _ _ _ _ _ c.new-writer.ensures.taken taken c.len.ensures.within _ c.refuse_into-answer.ensures.puts ended'

pub returns-in-Err-Fault-clause-full : goal.returns-in-Err-Fault-clause-full
returns-in-Err-Fault-clause-full c three =
    let full = c.len.ensures.full (failed _ _ _ _ _ _ c.refuse_into-answer.ensures.puts (sym (c.from.ensures ∙ c.status.ensures) ∙ three)) in
    search rules

pub returns-in-Err-Fault-clause-early : goal.returns-in-Err-Fault-clause-early
returns-in-Err-Fault-clause-early c fault standing same =
    rw (c.from.ensures ∙ c.status.ensures) (refuses c.in-Err-Fault.fault _ _ _ _ _ c.refuse_into-answer.ensures.puts c.refuse_into-answer.ensures.memory)
