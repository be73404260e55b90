use Rattle.std.proofs.Common.{◌∙◌, List, ℕ, refl, ap}
use Rattle.coff_archive.specs.ArchiveFile.{is_thin}
use Rattle.coff_lines.specs.MemberFile.{member_in}
use Rattle.coff_lines.proofs.member_file.extract_member.Goals as goal

pub returns-in-Ok : goal.returns-in-Ok
returns-in-Ok c =
    let opened = rw c.in-Ok.is at c.open_archive.ensures in
    c.member_in.ensures
    ∙ ap (λ (file : List ℕ). member_in (is_thin c.in-Ok.archive) file c.args.name.now c.args.index) opened.1.0
    ∙ rw (opened.0, opened.1.1) refl
