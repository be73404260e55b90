-- The string of the layout is that of the file's image.
use Rattle.std.proofs.Common.{◌≡◌, None, Some, subst, sym}
use Rattle.pe_layout.specs.Image.{LaidOut}
use Rattle.pe_records_c.proofs.Telling.{fault_told, none_refused}
use Rattle.petool_c.proofs.image.petool_read_text.Goals as goal

pub returns-in-Some-clause-done : goal.returns-in-Some-clause-done
returns-in-Some-clause-done c = λ _. subst (λ (i : LaidOut). i.text c.args.rva ≡ Some c.in-Some.bytes.now) c.in-Ok.ensures.1.shows (sym c.in-Some.ensures)

pub returns-in-None-clause-absent : goal.returns-in-None-clause-absent
returns-in-None-clause-absent c = λ _. subst (λ (i : LaidOut). i.text c.args.rva ≡ None) c.in-Ok.ensures.1.shows (sym c.in-None.ensures)

pub returns-in-Err-clause-refused : goal.returns-in-Err-clause-refused
returns-in-Err-clause-refused c = fault_told _ c.in-Err.first _ _ _ c.in-Err.ensures c.refuse.ensures.status c.refuse.ensures.told

pub returns-in-Some-clause-refused : goal.returns-in-Some-clause-refused
returns-in-Some-clause-refused c = none_refused _ _ _ c.in-Ok.ensures.0 (λ one. absurd cc one)

pub returns-in-None-clause-refused : goal.returns-in-None-clause-refused
returns-in-None-clause-refused c = none_refused _ _ _ c.in-Ok.ensures.0 (λ one. absurd cc one)
