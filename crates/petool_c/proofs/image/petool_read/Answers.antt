-- The filled bytes are those of the file's image.
use Rattle.std.proofs.Common.{◌≡◌, ◌+◌, ◌≤◌, length, subst}
use Rattle.pe_layout.specs.Image.{LaidOut, bytes_at}
use Rattle.pe_records_c.proofs.Telling.{fault_told, none_refused}
use Rattle.petool_c.proofs.image.petool_read.Goals as goal

pub returns-then-fill-clause-done : goal.returns-then-fill-clause-done
returns-then-fill-clause-done c = λ _. subst (λ (i : LaidOut). c.fill.new.buffer ≡ bytes_at i c.args.rva (length c.args.buffer.now)) c.in-Ok.ensures.1.shows c.if-fill.ensures.filled

pub returns-in-Err-clause-refused : goal.returns-in-Err-clause-refused
returns-in-Err-clause-refused c = fault_told _ c.in-Err.first _ _ _ c.in-Err.ensures c.refuse.ensures.status c.refuse.ensures.told

pub returns-then-fill-clause-refused : goal.returns-then-fill-clause-refused
returns-then-fill-clause-refused c = none_refused _ _ _ c.in-Ok.ensures.0 (λ one. absurd cc one)

pub returns-else-fill-clause-refused : goal.returns-else-fill-clause-refused
returns-else-fill-clause-refused c = none_refused _ _ _ c.in-Ok.ensures.0 (λ one. absurd cc one)

pub returns-then-fill-clause-inside : goal.returns-then-fill-clause-inside
returns-then-fill-clause-inside c = λ _. subst (λ (i : LaidOut). c.args.rva + length c.args.buffer.now ≤ i.size) c.in-Ok.ensures.1.shows (c.if-fill.ensures.fits.0 cc)
