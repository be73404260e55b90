-- One member after the other.
use Rattle.std.proofs.Common.{◌∙◌, List, ap, sym}
use Rattle.std.specs.List.{flat_map}
use Rattle.std.specs.Option.{option_or}
use Rattle.pe_view.specs.Faults.{first_standing}
use Rattle.coff_archive.specs.ArchiveFile.{file_of, is_thin}
use Rattle.coff_archive.specs.Front.{names_of}
use Rattle.coff_archive.specs.Members.{members}
use Rattle.coff_archive.specs.MemberView.{read_view}
use Rattle.coff_lines.specs.ArchiveLines.{read_tests, archive_fault}
use Rattle.coff_lines.proofs.ArchiveWalk.{first_more, or_none}
use Rattle.coff_archive_page.proofs.members.check_members.Goals as goal

pub loop-read-init : goal.loop-read-init
loop-read-init g c =
    let a = c.args.archive.now in
    let names = names_of (is_thin a) (file_of a) in
    ap (λ (xs : List _). first_standing (flat_map (read_tests (is_thin a) names) xs)) {y = members (is_thin a) (file_of a)} c.members-walk.ensures

pub loop-read-preserved : goal.loop-read-preserved
loop-read-preserved g c =
    let a = c.args.archive.now in
    let names = names_of (is_thin a) (file_of a) in
    first_more (read_tests (is_thin a) names) (read_view c.in-Some.read) _ _ c.loop-read.first c.in_ok-fault.fault _ (first_standing (flat_map (read_tests (is_thin a) names) (members (is_thin a) (file_of a)))) c.in-Some.ensures.steps c.or-first.ensures c.in_ok-fault.ensures c.loop-read.invariant

pub returns : goal.returns
unfolding archive_fault
returns g c =
    let a = c.args.archive.now in
    let names = names_of (is_thin a) (file_of a) in
    sym (or_none c.loop-read.first)
    ∙ ap (λ (xs : List _). option_or c.loop-read.first (first_standing (flat_map (read_tests (is_thin a) names) xs))) (sym c.in_default.ensures.steps.0)
    ∙ c.loop-read.invariant
