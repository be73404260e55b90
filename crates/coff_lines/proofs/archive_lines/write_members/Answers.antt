-- One member after the other.
use Rattle.std.proofs.Common.{◌∙◌, [], ◌++◌, List, refl, ap, sym, subst, append-nil}
use Rattle.std.specs.List.{flat_map}
use Rattle.std.specs.Option.{option_or}
use Rattle.pe_view.specs.Faults.{first_standing}
use Rattle.coff_archive.specs.ArchiveFile.{file_of, is_thin}
use Rattle.coff_archive.specs.Front.{names_of}
use Rattle.coff_archive.specs.MemberView.{read_view}
use Rattle.pe_text.specs.TextWriter.{Adds}
use Rattle.pe_text.proofs.Adding.{Adds-held, ◌then◌}
use Rattle.coff_lines.specs.ArchiveLines.{read_tests, read_text}
use Rattle.coff_lines.proofs.ArchiveWalk.{first_more, text_more, or_none}
use Rattle.coff_lines.proofs.archive_lines.write_members.Goals as goal

pub loop-read-init : goal.loop-read-init
loop-read-init g c =
    let a = c.args.archive.now in
    let names = names_of (is_thin a) (file_of a) in
    record {
      fault = ap (λ (xs : List _). first_standing (flat_map (read_tests (is_thin a) names) xs)) c.members-members.ensures;
      text = (
        [],
        Adds-held g.W.Sink.taken g.W.Sink.failures c.args.text.now c.args.text.now [] c.requires refl (sym (append-nil _)) refl,
        ap (flat_map (read_text (is_thin a) names)) c.members-members.ensures,
      );
    }

pub loop-read-preserved : goal.loop-read-preserved
loop-read-preserved g c =
    let a = c.args.archive.now in
    let names = names_of (is_thin a) (file_of a) in
    let i = c.loop-read.invariant in
    record {
      fault = first_more (read_tests (is_thin a) names) (read_view c.in-Some.read) _ _ c.loop-read.first c.write_read-fault.result _ _ c.in-Some.ensures.steps c.or-first.ensures c.write_read-fault.ensures.fault i.fault;
      text = (_, i.text.1 then c.write_read-fault.ensures.adds, text_more (read_text (is_thin a) names) (read_view c.in-Some.read) _ _ i.text.0 _ c.in-Some.ensures.steps i.text.2);
    }

pub returns-clause-fault : goal.returns-clause-fault
returns-clause-fault g c =
    let a = c.args.archive.now in
    let names = names_of (is_thin a) (file_of a) in
    sym (or_none c.loop-read.first)
    ∙ ap (λ (xs : List _). option_or c.loop-read.first (first_standing (flat_map (read_tests (is_thin a) names) xs))) (sym c.in_default.ensures.steps.0)
    ∙ c.loop-read.invariant.fault

pub returns-clause-adds : goal.returns-clause-adds
returns-clause-adds g c =
    let a = c.args.archive.now in
    let names = names_of (is_thin a) (file_of a) in
    let i = c.loop-read.invariant.text in
    subst (Adds g.W.Sink.taken g.W.Sink.failures c.args.text.now c.loop-read.text)
    (sym (append-nil i.0) ∙ ap (λ (xs : List _). i.0 ++ flat_map (read_text (is_thin a) names) xs) (sym c.in_default.ensures.steps.0) ∙ i.2)
    i.1
