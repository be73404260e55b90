use Rattle.pe_set.specs.DelayedErrors.{delayed_error}
use Rattle.pe_set.specs.DelayedImports.{with_delayed}
use Rattle.pe_set.specs.Set.{modules_of}
use Rattle.pe_set.specs.SetView.{entries_of}
use Rattle.pe_map_lines.proofs.DelayedLines.{count_delayed, delayed_told}
use Rattle.pe_map_lines.proofs.Reported.{has_delayed_content, opened_reported, opened_tellable}
use Rattle.pe_map_lines.proofs.delayed_report.write_delayed.Goals as goal

pub tell_opened-requires-clause-tellable : goal.tell_opened-requires-clause-tellable
tell_opened-requires-clause-tellable g c =
    let es = entries_of c.args.set.now in
    opened_tellable c.args.set.now (delayed_error c.args.policy es) (with_delayed (modules_of es)) c.open_space_delayed.result
    (has_delayed_content c.args.policy es c.open_space_delayed.result c.open_space_delayed.ensures.exact) (count_delayed c.args.set.now) (c.delayed_sets_are_sound.ensures.sound c.args.policy es)

pub returns-clause-adds : goal.returns-clause-adds
returns-clause-adds g c =
    let es = entries_of c.args.set.now in
    opened_reported c.args.set.now (delayed_error c.args.policy es) (with_delayed (modules_of es)) c.open_space_delayed.result
    (has_delayed_content c.args.policy es c.open_space_delayed.result c.open_space_delayed.ensures.exact) c.args.window c.tell_opened.result _ (delayed_told c.args.set.now)
    (λ none a. c.delayed_content_serves_at_all_bases.ensures.bytes c.args.policy es a none) c.tell_opened.ensures.adds
