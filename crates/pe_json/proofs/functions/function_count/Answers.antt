use Rattle.std.proofs.Common.{◌≡◌, ℕ, true, false, ap, arith, refl, Some}
use Rattle.std.proofs.lemmas.Bool.{or_parts}
use Rattle.std.proofs.lemmas.Grind.{common_steps}
use Rattle.pe_layout.specs.Layout.{headers_of}
use Rattle.pe_records.specs.Exceptions.{is_amd64, is_arm}
use Rattle.pe_json.proofs.functions.function_count.Goals as goal

other_machine : (machine : ℕ) → is_arm machine ≡ true → is_amd64 machine ≡ false
other_machine machine is = grind (arith, common_steps, is)

pub returns-in-Amd64 : goal.returns-in-Amd64
returns-in-Amd64 c =
    let held = c.in-Amd64.ensures in
    rw held.0 (ap Some (rw held.1 at c.len.ensures))

pub returns-in-Arm : goal.returns-in-Arm
returns-in-Arm c =
    let held = c.in-Arm.ensures in
    rw (other_machine _ held.0, held.0) (ap Some (rw held.1 at c.len-in-Arm.ensures))

pub returns-in-Other : goal.returns-in-Other
returns-in-Other c =
    let machine = (headers_of c.args.layout.now).machine in
    let none = or_parts (is_amd64 machine) (is_arm machine) c.in-Other.ensures in
    rw (none.0, none.1) refl
