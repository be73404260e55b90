use Rattle.std.proofs.lemmas.Result.{err_from_is_err_and}
use Rattle.pe_image.specs.HasBytes.{has_bytes}
use Rattle.pe_resource_files.proofs.list.ListReportReport.write.Goals as goal

pub returns-in_err-tree-in-Ok-clause-reads : goal.returns-in_err-tree-in-Ok-clause-reads
returns-in_err-tree-in-Ok-clause-reads g c =
    let p = err_from_is_err_and c.from_residual.result c.from_residual.ensures.1 in
    rw p.1 (has_bytes 0 c.args.file.now c.in-Ok.ensures.0)
