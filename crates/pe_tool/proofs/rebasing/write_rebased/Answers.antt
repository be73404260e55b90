use Rattle.std.proofs.Common.{◌≡◌, ◌∙◌, ◌<◌, ℕ, List, length, None, Some, Err, refl, sym, ap, subst, append-nil}
use Rattle.pe_view.specs.Faults.{first_standing}
use Rattle.pe_write.specs.Summed.{rebased_as}
use Rattle.pe_write.specs.RebaseFaults.{rebase_tests}
use Rattle.pe_text.specs.declared.outcome.Outcome.TheVariants.{Refused}
use Rattle.pe_tool.proofs.RebaseRuns.{ran_told, ran_out_of_memory, ran_short, some_bytes}
use Rattle.pe_tool.proofs.rebasing.write_rebased.Goals as goal

pub returns-in-Err-Fault-clause-ran : goal.returns-in-Err-Fault-clause-ran
returns-in-Err-Fault-clause-ran g c =
    let e = c.in_ok-file.ensures in
    let base = c.args.base in
    let fault = c.in-Err-Fault.fault in
    let stands = subst (λ (file : List ℕ). first_standing (rebase_tests file base) ≡ Some fault) (c.deref.ensures.value ∙ e.2.0) (rw c.in-Err-Fault.field-0-is at c.in-Err-Fault.ensures.exact) in
    ran_told c.args.check_sum base _ _ _ e.0 e.1 e.3 e.2.1 (Refused fault) _ _ c.tell.result stands (sym (append-nil _), refl) c.tell.ensures

pub returns-in-Err-Memory-clause-ran : goal.returns-in-Err-Memory-clause-ran
returns-in-Err-Memory-clause-ran g c =
    let e = c.in_ok-file.ensures in
    let some = some_bytes c.deref.result.now c.new_file.result c.new_file.ensures.early (c.in-Err-Memory.is ∙ ap Err c.in-Err-Memory.field-0-is) in
    ran_out_of_memory c.args.check_sum c.args.base _ _ _ e.0 e.1 e.3 _ _ _ _ (subst (λ (file : List ℕ). 0 < length file) (c.deref.ensures.value ∙ e.2.0) some)

pub returns-clause-ran : goal.returns-clause-ran
returns-clause-ran g c =
    let e = c.in_ok-file.ensures in
    let base = c.args.base in
    let own = c.deref.ensures.value ∙ e.2.0 in
    let none = subst (λ (file : List ℕ). first_standing (rebase_tests file base) ≡ None) own c.in-Ok.ensures.exact.0 in
    let bytes : c.deref-2.result.now ≡ rebased_as c.args.check_sum e.0 base = c.deref-2.ensures.value ∙ c.in-Ok.ensures.exact.1 ∙ ap (λ (file : List ℕ). rebased_as c.args.check_sum file base) own in
    ran_short c.args.check_sum base _ _ _ e.0 e.1 e.3 e.2.1 _ _ _ c.deref-2.result.now none bytes c.in-Err.ensures
