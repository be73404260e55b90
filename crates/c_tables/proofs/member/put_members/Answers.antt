-- One more member of those that are left.
use Rattle.std.proofs.Common.{◌≤◌, ◌∙◌, ◌∷◌, Result, length, ap, arith}
use Rattle.coff_archive.specs.ArchiveFile.{file_of, is_thin}
use Rattle.coff_archive.specs.MembersLeft.{members_left}
use Rattle.coff_archive.specs.MemberView.{member_view, read_view}
use Rattle.coff_archive.specs.declared.member.Member.{Member}
use Rattle.pe_records_c.proofs.Left.{first_left, none_left}
use Rattle.c_tables.proofs.FewRows.{got_within}
use Rattle.c_tables.proofs.FilledRows.{filled_all, row_stored}
use Rattle.c_tables.specs.MemberRows.{member_row, member_text, whole, whole_members}
use Rattle.c_tables.proofs.FewMembers.{few_members}
use Rattle.c_tables.proofs.member.put_members.Goals as goal

pub loop-read-preserved : goal.loop-read-preserved
loop-read-preserved c =
    let i = c.loop-read.invariant in
    let thin = is_thin c.args.archive.now in
    let file = file_of c.args.archive.now in
    let all = whole_members thin file in
    let shown = member_view c.in-Ok.member in
    let rest = members_left c.next.new.self in
    let step = c.in-Some.ensures.steps ∙ ap (λ (read : Result Member _). read_view read ∷ rest) c.in-Ok.is in
    let next = first_left all c.loop-read.count shown (whole rest) (i.left ∙ ap whole step) in
    record {
      told = row_stored member_text (member_row thin file) all _ c.loop-read.rows c.put_row.new.rows c.loop-read.count shown c.of.result next.0 i.told c.of.ensures c.put_row.ensures;
      left = next.1;
      within = got_within all c.loop-read.count shown next.0;
    }

pub overflow_add-count : goal.overflow_add-count
overflow_add-count c =
    let within = (loop-read-preserved c).within in
    let few = few_members (is_thin c.args.archive.now) (file_of c.args.archive.now) in
    let small = c.args.archive.now.small in
    omega (arith, within, few, small)

pub returns-clause-rows : goal.returns-clause-rows
returns-clause-rows c =
    let i = c.loop-read.invariant in
    let all = whole_members (is_thin c.args.archive.now) (file_of c.args.archive.now) in
    let end : length all ≤ c.loop-read.count = none_left all c.loop-read.count (i.left ∙ ap whole c.in-None.ensures.steps.0) in
    i.told ∙ filled_all (member_row (is_thin c.args.archive.now) (file_of c.args.archive.now)) all _ c.loop-read.count end

pub returns-clause-count : goal.returns-clause-count
returns-clause-count c =
    let i = c.loop-read.invariant in
    let all = whole_members (is_thin c.args.archive.now) (file_of c.args.archive.now) in
    let end : length all ≤ c.loop-read.count = none_left all c.loop-read.count (i.left ∙ ap whole c.in-None.ensures.steps.0) in
    let within = i.within in
    omega (arith, end, within)
