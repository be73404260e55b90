use Rattle.pe_set.specs.Set.{modules_of}
use Rattle.pe_set.specs.SetErrors.{set_error}
use Rattle.pe_set.specs.SetView.{entries_of}
use Rattle.pe_map_lines.proofs.Mapped.{images_told}
use Rattle.pe_map_lines.proofs.Reported.{count_of, has_content, opened_reported, opened_tellable}
use Rattle.pe_map_lines.proofs.set_report.write_map.Goals as goal

pub tell_opened-requires-clause-tellable : goal.tell_opened-requires-clause-tellable
tell_opened-requires-clause-tellable g c =
    let es = entries_of c.args.set.now in
    opened_tellable c.args.set.now (set_error c.args.policy es) (modules_of es) c.open_space.result (has_content c.args.policy es c.open_space.result c.open_space.ensures.exact) (count_of c.args.set.now)
    (c.accepted_sets_are_sound.ensures.sound c.args.policy es)

pub returns-clause-adds : goal.returns-clause-adds
returns-clause-adds g c =
    let es = entries_of c.args.set.now in
    opened_reported c.args.set.now (set_error c.args.policy es) (modules_of es) c.open_space.result (has_content c.args.policy es c.open_space.result c.open_space.ensures.exact) c.args.window c.tell_opened.result _
    (images_told c.args.set.now) (λ none a. c.content_serves_at_all_bases.ensures.bytes c.args.policy es a none) c.tell_opened.ensures.adds
