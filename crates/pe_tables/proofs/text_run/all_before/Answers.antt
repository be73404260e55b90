-- The last string of a run comes after all others.
use Rattle.std.proofs.Common.{◌≡◌, ◌∙◌, ap}
use Rattle.std.specs.Ordering.{nat_cmp, is_lt}
use Rattle.std.specs.Cmp.Lexicographic.{slice_cmp}
use Rattle.pe_tables.proofs.TextRun.{before_by, answer_by, all_stand_before, last_stands_before}
use Rattle.pe_tables.proofs.text_run.all_before.Goals as goal

pub returns-in-Some : goal.returns-in-Some
returns-in-Some g c =
    let last = c.in-Some.ensures.item in
    let text = c.args.text.now in
    let answer : c.is_lt.result ≡ is_lt (slice_cmp nat_cmp c.in-Some.last.now.0.now text) = c.is_lt.ensures ∙ ap is_lt c.cmp.ensures in (
      λ before. all_stand_before c.args.run.now c.in-Some.last.now text c.requires last.3.0 last.3.1 (before_by c.in-Some.last.now.0.now text c.is_lt.result answer before),
      λ all. answer_by c.in-Some.last.now.0.now text c.is_lt.result answer (last_stands_before c.args.run.now c.in-Some.last.now text last.3.0 last.3.1 all),
    )
