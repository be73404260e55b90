use Rattle.pe_set.specs.SetView.{entries_of}
use Rattle.pe_text.proofs.Adding.{◌then◌}
use Rattle.pe_map_lines.proofs.Unbound.{whole}
use Rattle.pe_map_lines.proofs.set_report.write_map_unbound.Goals as goal

pub returns-clause-adds : goal.returns-clause-adds
returns-clause-adds g c =
    let told = c.in_ok-outcome.ensures.adds in
    let lines = rw (c.told_after.ensures, c.deref.ensures.value) at c.write_unbound.ensures in (
      _,
      whole c.args.policy (entries_of c.args.set.now) c.args.window c.in_ok-outcome.outcome told.0 c.in_ok-unbound.unbound.items told.1 c.in_ok-unbound.ensures.exact,
      told.2 then lines,
    )
