-- The operation at the next slot, or the finding that ends them.
use Rattle.std.proofs.Common.{rules, ◌∙◌, ℕ, ◌+◌, ◌*◌, ◌-◌, ◌<◌, ◌∷◌, length, sym, ap, arith}
use Rattle.std.specs.Prelude.{Result, Ok}
use Rattle.pe_view.specs.declared.fault.Fault.{Fault}
use Rattle.pe_layout.specs.Layout.{image_of}
use Rattle.pe_unwind.specs.Operations.{operations_from}
use Rattle.pe_unwind.specs.declared.operation.Operation.{Operation}
use Rattle.pe_unwind.proofs.Slots.{ends, goes_on}
use Rattle.pe_unwind.proofs.operations.OperationsIterator.next.Goals as goal

pub returns-in-Ok-clause-steps : goal.returns-in-Ok-clause-steps
returns-in-Ok-clause-steps c =
    let s = c.args.self.now in
    let i = image_of s.layout.now in
    let first : Result Operation Fault = Ok c.in-Ok.operation in
    let some : 0 < s.left = omega arith in
    goes_on i s.version s.left s.at c.in-Ok.operation some (sym c.in-Ok.ensures)
    ∙ ap (λ (n : ℕ). first ∷ operations_from i s.version (s.left - n) 0 (s.at + 2 * n)) (sym c.slot_count-slots.ensures.value)

pub returns-in-Ok-clause-goes : goal.returns-in-Ok-clause-goes
returns-in-Ok-clause-goes c =
    let shorter = ap length (returns-in-Ok-clause-steps c) in
    search rules

pub returns-in-Err-clause-steps : goal.returns-in-Err-clause-steps
returns-in-Err-clause-steps c =
    let s = c.args.self.now in
    let some : 0 < s.left = omega arith in
    ends (image_of s.layout.now) s.version s.left s.at c.in-Err.fault some (sym c.in-Err.ensures)

pub returns-in-Err-clause-goes : goal.returns-in-Err-clause-goes
returns-in-Err-clause-goes c =
    let shorter = ap length (returns-in-Err-clause-steps c) in
    search rules
