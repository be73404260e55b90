use Rattle.std.proofs.Common.{Ok, Err, sym, inl, inr}
use Rattle.pe_reach.proofs.PartBytes.{none_is}
use Rattle.pe_reach.proofs.PartsRuns.{some_outcome, are_read, ran_by_parts, parts_undecided}
use Rattle.pe_reach.proofs.parts_report.run_parts.Goals as goal

pub returns-in-Ok-clause-ran : goal.returns-in-Ok-clause-ran
unfolding some_outcome
returns-in-Ok-clause-ran g c =
    let e = c.in_ok-parts.ensures.parts in
    let parts = c.in-Some.parts in
    let tables = c.in-Ok-Some.tables in
    ran_by_parts g.T.TablesReport.is_text c.args.len _ _ _ _ _ _ parts.headers tables e.0 e.1
    (are_read c.args.len e.0 parts c.deref.result.now tables c.deref.ensures.value (rw c.in-Some.is at e.2.1) (rw c.in-Ok-Some.field-0-is at c.in-Ok-Some.ensures.contents))
    (Ok c.in-Ok.outcome) (rw c.in-Ok.is at c.write_tables.ensures)

pub returns-in-Ok-Some-clause-ran : goal.returns-in-Ok-Some-clause-ran
unfolding some_outcome
returns-in-Ok-Some-clause-ran g c =
    let e = c.in_ok-parts.ensures.parts in
    let parts = c.in-Some.parts in
    let tables = c.in-Ok-Some.tables in
    ran_by_parts g.T.TablesReport.is_text c.args.len _ _ _ _ _ _ parts.headers tables e.0 e.1
    (are_read c.args.len e.0 parts c.deref.result.now tables c.deref.ensures.value (rw c.in-Some.is at e.2.1) (rw c.in-Ok-Some.field-0-is at c.in-Ok-Some.ensures.contents))
    (Err c.in-Err-write_tables.error) (rw c.in-Err-write_tables.is at c.write_tables.ensures)

pub returns-in_default-clause-left : goal.returns-in_default-clause-left
returns-in_default-clause-left g c = inl (rw (none_is _ c.in_default.not-Some) at c.in_ok-parts.ensures.left)

pub returns-in-Ok-None-clause-left : goal.returns-in-Ok-None-clause-left
returns-in-Ok-None-clause-left g c =
    let e = c.in_ok-parts.ensures.parts in
    let none = rw c.in-Ok-None.field-0-is at c.in-Ok-None.ensures.some in
    inr (parts_undecided c.args.len _ _ e.0 c.in-Some.parts c.deref.result.now e.1 c.deref.ensures.value (rw c.in-Some.is at e.2.1) (rw c.in-Some.is at c.in_ok-parts.ensures.places) (rw c.in-Some.is at c.in_ok-parts.ensures.size) (sym none))
