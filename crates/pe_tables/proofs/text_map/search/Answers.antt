-- Where a string is, its value is.
use Rattle.std.proofs.Common.{sym}
use Rattle.pe_tables.proofs.TextRun.{place-found}
use Rattle.pe_tables.proofs.text_map.search.Goals as goal

pub returns-in-Some : goal.returns-in-Some
returns-in-Some c =
    let place = c.in-Some.ensures in
    sym (place-found c.args.run.now c.args.text.now c.in-Some.index _ c.requires place.0 (place.1 _))
