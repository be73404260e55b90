use Rattle.pe_set.proofs.Exporting.{little}
use Rattle.pe_set.proofs.laws.sets_export_little.Goals as goal

pub returns : goal.returns
returns c = little (record { ordinals = c.exports_are_few.ensures.ordinals; names = c.exports_are_few.ensures.names })
