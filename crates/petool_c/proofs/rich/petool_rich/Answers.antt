-- What is told by the headers holds for the file.
use Rattle.std.proofs.Common.{ℕ, List, subst}
use Rattle.pe_head.specs.declared.headers.Headers.{Headers}
use Rattle.c_tables.specs.Told.{TellsRecord}
use Rattle.c_tables.proofs.Telling.{record_read, record_refused}
use Rattle.c_tables.specs.RichRows.{rich_told}
use Rattle.petool_c.proofs.rich.petool_rich.Goals as goal

pub returns-in-Ok : goal.returns-in-Ok
returns-in-Ok c =
    let held = c.in-Ok.ensures in
    let told = c.tell_rich in
    let of_file = subst (λ (bytes : List ℕ). TellsRecord (λ r. r) (rich_told bytes c.in-Ok.headers) c.args.rich.now told.new.rich told.result) c.new.ensures told.ensures in
    record_read _ (λ r. r) _ _ _ _ _ held.0
    (subst (λ (h : Headers). TellsRecord (λ r. r) (rich_told c.args.file.now h) c.args.rich.now told.new.rich told.result) held.1 of_file)

pub returns-in-Err : goal.returns-in-Err
returns-in-Err c = record_refused _ _ _ _ c.in-Err.first _ _ _ c.in-Err.ensures c.refuse.ensures.status c.refuse.ensures.told
