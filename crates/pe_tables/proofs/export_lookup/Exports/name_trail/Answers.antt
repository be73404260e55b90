use Rattle.std.proofs.Common.{sym, subst}
use Rattle.pe_tables.specs.NameTrail.{IsTrail, IsTrailOf}
use Rattle.pe_tables.proofs.NameTrails.{no_trail}
use Rattle.pe_tables.proofs.export_lookup.Exports.name_trail.Goals as goal

pub returns : goal.returns
unfolding IsTrailOf
returns g c = λ file end. let nodes = c.args.self.now.names.long.nodes.items in subst (IsTrail nodes file end) (sym c.new.ensures.items) (no_trail nodes file end)
