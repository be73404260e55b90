use Rattle.std.proofs.Common.{◌≡◌, ℕ, true, false, arith}
use Rattle.std.proofs.lemmas.Bool.{or_parts}
use Rattle.std.proofs.lemmas.Grind.{common_steps}
use Rattle.json.specs.Print.{escape_byte}
use Rattle.pe_layout.specs.Layout.{headers_of}
use Rattle.pe_records.specs.Exceptions.{is_amd64, is_arm}
use Rattle.pe_json.specs.FunctionRows.{list_member}
use Rattle.pe_json.specs.JsonText.{member, list}
use Rattle.pe_json.specs.Listed.{more}
use Rattle.pe_json.proofs.Objects.{adds_none, ended}
use Rattle.pe_json.proofs.functions.write_rows.Goals as goal

other_machine : (machine : ℕ) → is_arm machine ≡ true → is_amd64 machine ≡ false
other_machine machine is = grind (arith, common_steps, is)

pub returns-in-Amd64 : goal.returns-in-Amd64
unfolding list_member more member list escape_byte
returns-in-Amd64 g c =
    let held = c.in-Amd64.ensures in
    rw held.0 (ended (rw held.1 at c.write_list.ensures))

pub returns-in-Arm : goal.returns-in-Arm
unfolding list_member more member list escape_byte
returns-in-Arm g c =
    let held = c.in-Arm.ensures in
    rw (other_machine _ held.0, held.0) (ended (rw held.1 at c.write_list-in-Arm.ensures))

pub returns-in-Other : goal.returns-in-Other
unfolding list_member more
returns-in-Other g c =
    let machine = (headers_of c.args.layout.now).machine in
    let none = or_parts (is_amd64 machine) (is_arm machine) c.in-Other.ensures in
    rw (none.0, none.1) (adds_none c.requires)
