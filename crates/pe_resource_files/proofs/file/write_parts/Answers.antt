use Rattle.std.proofs.Common.{◌∙◌, ◌+◌, ℕ, ap}
use Rattle.std.proofs.lemmas.Result.{err_from_is_err_and}
use Rattle.pe_resource_files.proofs.Writing.{in_part}
use Rattle.pe_resource_files.proofs.file.write_parts.Goals as goal

pub returns-in_err-write_all : goal.returns-in_err-write_all
returns-in_err-write_all g c =
    let p = err_from_is_err_and c.from_residual.result c.from_residual.ensures.1 in
    let failed = c.in_err-write_all.ensures in
    rw p.1 (in_part _ _ _ c.args.parts.now c.loop-part.part-index failed.0.0 _ c.loop-part-test.true c.loop-part.invariant.taken failed.0.1, failed.1 ∙ ap (λ (n : ℕ). n + 1) c.loop-part.invariant.count)
