use Rattle.std.proofs.Common.{◌∙◌, map, set, ap}
use Rattle.std.proofs.lemmas.List.{map-set}
use Rattle.c_tables.specs.SignatureRows.{signature_text}
use Rattle.c_tables.proofs.signature.put_signature.Goals as goal

pub returns-then-index-rows-clause-row : goal.returns-then-index-rows-clause-row
returns-then-index-rows-clause-row c =
    map-set signature_text c.args.rows.now c.args.index c.of.result ∙ ap (set (map signature_text c.args.rows.now) c.args.index) c.of.ensures.value
