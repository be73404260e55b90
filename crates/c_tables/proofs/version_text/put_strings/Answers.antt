-- One more string of those that are left.
use Rattle.std.proofs.Common.{◌≤◌, ◌∙◌, length, arith}
use Rattle.pe_records_c.proofs.Left.{first_left, none_left}
use Rattle.c_tables.proofs.FewRows.{got_within}
use Rattle.c_tables.proofs.FilledRows.{filled_all, row_stored}
use Rattle.pe_version.specs.StringsLeft.{string_view, strings_left}
use Rattle.c_tables.specs.VersionRows.{version_text}
use Rattle.c_tables.proofs.FewStrings.{few_strings}
use Rattle.c_tables.proofs.version_text.put_strings.Goals as goal

pub loop-string-preserved : goal.loop-string-preserved
loop-string-preserved c =
    let i = c.loop-string.invariant in
    let all = strings_left c.args.strings in
    let shown = string_view c.in-Some.string in
    let next = first_left all c.loop-string.count shown (strings_left c.next.new.self) (i.left ∙ c.in-Some.ensures.steps) in
    record {
      told = row_stored version_text (λ text. text) all _ c.loop-string.rows c.put_row.new.rows c.loop-string.count shown c.of.result next.0 i.told c.of.ensures c.put_row.ensures;
      left = next.1;
      within = got_within all c.loop-string.count shown next.0;
    }

pub overflow_add-count : goal.overflow_add-count
overflow_add-count c =
    let within = (loop-string-preserved c).within in
    let few = few_strings c.args.strings in
    omega (arith, within, few)

pub returns-clause-rows : goal.returns-clause-rows
returns-clause-rows c =
    let i = c.loop-string.invariant in
    let all = strings_left c.args.strings in
    let end : length all ≤ c.loop-string.count = none_left all c.loop-string.count (i.left ∙ c.in-None.ensures.steps.0) in
    i.told ∙ filled_all (λ text. text) all _ c.loop-string.count end

pub returns-clause-count : goal.returns-clause-count
returns-clause-count c =
    let i = c.loop-string.invariant in
    let all = strings_left c.args.strings in
    let end : length all ≤ c.loop-string.count = none_left all c.loop-string.count (i.left ∙ c.in-None.ensures.steps.0) in
    let within = i.within in
    omega (arith, end, within)
