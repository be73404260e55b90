use Rattle.pe_set.specs.SetView.{entries_of}
use Rattle.pe_text.proofs.Adding.{◌then◌}
use Rattle.pe_map_lines.proofs.Unbound.{whole_delayed}
use Rattle.pe_map_lines.proofs.delayed_report.write_all.Goals as goal

pub returns-clause-adds : goal.returns-clause-adds
returns-clause-adds g c =
    let es = entries_of c.args.set.now in
    let told = c.in_ok-outcome.ensures.adds in
    let lines = rw (c.told_after.ensures, c.deref.ensures.value) at c.write_unbound.ensures in (
      _,
      whole_delayed c.args.is_unbound c.args.policy es c.args.window c.in_ok-outcome.outcome told.0 c.in_ok-unbound.unbound.items told.1 c.in_ok-unbound.ensures.exact
          (c.delayed_sets_are_accepted_without.ensures c.args.policy es),
      told.2 then lines,
    )
