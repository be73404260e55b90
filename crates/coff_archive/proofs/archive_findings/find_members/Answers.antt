-- One member after the other.
use Rattle.std.proofs.Common.{◌≢◌, []}
use Rattle.std.proofs.lemmas.Result.{err_from_is_err_and}
use Rattle.std.specs.List.{flat_map}
use Rattle.std.specs.Option.{option_to_list}
use Rattle.pe_view.specs.AllStanding.{adds_wants}
use Rattle.pe_view.specs.Standing.{standing}
use Rattle.coff_archive.specs.ArchiveFile.{file_of, is_thin}
use Rattle.coff_archive.specs.Findings.{read_tests}
use Rattle.coff_archive.specs.Front.{names_of}
use Rattle.coff_archive.specs.Members.{members}
use Rattle.coff_archive.specs.MemberView.{read_view}
use Rattle.coff_archive.proofs.Found.{found_more, some_here, some_more}
use Rattle.coff_archive.proofs.archive_findings.find_members.Goals as goal

pub loop-read-preserved : goal.loop-read-preserved
loop-read-preserved g c =
    let a = c.args.archive.now in
    let tests = read_tests (names_of (is_thin a) (file_of a)) in
    let all = members (is_thin a) (file_of a) in
    let inv = c.loop-read.invariant in
    let more = found_more tests (read_view c.in-Some.read) _ _ all c.in-Some.ensures.steps c.loop-read.found.items _ (option_to_list c.read_finding.result) _ c.in_ok-add.ensures.adds c.read_finding.ensures inv.0 in
    (more, some_more tests (read_view c.in-Some.read) _ _ all c.in-Some.ensures.steps inv.1)

pub returns-in_err-add : goal.returns-in_err-add
returns-in_err-add g c =
    let a = c.args.archive.now in
    let tests = read_tests (names_of (is_thin a) (file_of a)) in
    let all = members (is_thin a) (file_of a) in
    let inv = c.loop-read.invariant in
    let some : standing (flat_map tests all) ≢ [] =
    some_here tests (read_view c.in-Some.read) _ _ all c.in-Some.ensures.steps (option_to_list c.read_finding.result) c.read_finding.ensures inv.1 c.in_err-add.ensures.wants in
    let p = err_from_is_err_and c.from_residual.result c.from_residual.ensures.1 in
    adds_wants (flat_map tests all) c.args.found.now.items c.add.new.found.items c.from_residual.result p.0 p.1 some
