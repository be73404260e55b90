use Rattle.std.proofs.Common.{Option, subst}
use Rattle.pe_tables.specs.Key.{Target}
use Rattle.pe_records_c.specs.ExportRows.{TellsTarget}
use Rattle.pe_records_c.proofs.Closing.{target_told}
use Rattle.pe_records_c.proofs.opened.tell_ordinal.Goals as goal

pub returns-clause-target : goal.returns-clause-target
returns-clause-target c = subst (λ (t : Option Target). TellsTarget t c.args.target.now c.put_target.new.told c.put_target.result) c.opened_at.ensures c.put_target.ensures

pub returns-clause-open : goal.returns-clause-open
returns-clause-open c = target_told _ _ _ _ c.put_target.ensures
