-- One member after the other.
use Rattle.std.proofs.Common.{◌∙◌, sym}
use Rattle.std.specs.Prelude.{option_map}
use Rattle.coff_archive.specs.ArchiveFile.{file_of, is_thin}
use Rattle.coff_archive.specs.Front.{names_of}
use Rattle.coff_archive.specs.MembersLeft.{members_left}
use Rattle.coff_archive.specs.MemberView.{read_view}
use Rattle.coff_archive.proofs.Named.{passed, skipped}
use Rattle.coff_archive.proofs.archive.Archive.find.Goals.{then-reads_named+else-left-eq0, else-reads_named}
use Rattle.coff_archive.proofs.archive.Archive.find.Goals as goal

pub loop-read-preserved : goal.loop-read-preserved
loop-read-preserved c =
    let a = c.args.self.now in
    let names = names_of (is_thin a) (file_of a) in
    let left = members_left c.loop-read.members in
    let more = members_left c.next.new.self in
    let read = read_view c.in-Some.read in
    let before = option_map read_view c.loop-read.fault in
    let after = option_map read_view c.fault_after-fault.result in
    elim c.if-reads_named.branch [
      | then-reads_named+else-left-eq0 b ↦
          rw b.left-is
          (passed names c.args.name.now left more read c.loop-read.left before after _ c.in-Some.ensures.steps
          (sym c.reads_named.ensures ∙ b.if-reads_named.true) b.if-left-eq0.false c.fault_after-fault.ensures c.loop-read.invariant)
      | else-reads_named b ↦
          rw b.left-is
          (skipped names c.args.name.now left more read c.loop-read.left before after _ c.in-Some.ensures.steps
          (sym c.reads_named.ensures ∙ b.if-reads_named.false) c.fault_after-fault.ensures c.loop-read.invariant)
    ]
