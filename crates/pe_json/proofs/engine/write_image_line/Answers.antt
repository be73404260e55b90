use Rattle.std.proofs.lemmas.Result.{err_from_is_err_and}
use Rattle.pe_image.specs.HasBytes.{image_has_bytes}
use Rattle.pe_reach.specs.Views.{seen_of}
use Rattle.pe_json.proofs.HeadBytes.{image_is_small}
use Rattle.pe_json.proofs.engine.write_image_line.Goals as goal

pub returns-in_err-write_accepted-in-Ok-clause-memory : goal.returns-in_err-write_accepted-in-Ok-clause-memory
returns-in_err-write_accepted-in-Ok-clause-memory g c =
    let p = err_from_is_err_and c.from_residual.result c.from_residual.ensures.1 in
    rw p.1 (image_has_bytes 0 (seen_of c.args.file) c.in-Ok.ensures.exact.0)

pub write_accepted-requires-clause-small : goal.write_accepted-requires-clause-small
write_accepted-requires-clause-small g c = image_is_small 0 (seen_of c.args.file) c.in-Ok.ensures.exact.0
