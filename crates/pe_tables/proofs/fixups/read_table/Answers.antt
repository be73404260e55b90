-- What was read is right if no two fields share a byte.
use Rattle.std.proofs.lemmas.Result.{err_from_is_err_and}
use Rattle.pe_tables.proofs.fixups.read_table.Goals as goal

pub returns-in_err-read : goal.returns-in_err-read
returns-in_err-read g c =
    let settled = c.in_ok-are_apart.ensures c.if-branch.true in
    let p = err_from_is_err_and c.from_residual-in_err-read.result c.from_residual-in_err-read.ensures.1 in
    rw (p.1, p.2) (c.in_err-read.ensures.exact settled)

pub returns-then-branch : goal.returns-then-branch
returns-then-branch g c =
    let settled = c.in_ok-are_apart.ensures c.if-branch.true in
    ((c.in_ok-read.ensures.exact settled).0, c.in_ok-read.ensures.fixups)
