-- The finding of the name comes before those of the contents.
use Rattle.std.proofs.Common.{◌≡◌, ◌∙◌, [], ◌∷◌, Option, ap, sym}
use Rattle.std.specs.Prelude.{is_none}
use Rattle.std.specs.Option.{option_or}
use Rattle.pe_view.specs.declared.fault.Fault.{Fault}
use Rattle.pe_view.specs.Faults.{Test, first_standing}
use Rattle.pe_view.specs.FirstStanding.{first-append}
use Rattle.coff_archive.specs.ArchiveFile.{file_of, is_thin}
use Rattle.coff_archive.specs.Front.{names_of}
use Rattle.coff_archive.specs.Members.{at_offset}
use Rattle.coff_archive.specs.MemberView.{member_view}
use Rattle.coff_archive.specs.Names.{name_of}
use Rattle.coff_lines.specs.ArchiveLines.{contents_tests}
use Rattle.coff_lines.proofs.archive_lines.write_whole_member.Goals as goal

pub returns-clause-fault : goal.returns-clause-fault
returns-clause-fault g c =
    let a = c.args.archive.now in
    let m = member_view c.args.member in
    let nameless : Test = at_offset 304 m.offset (is_none (name_of (names_of (is_thin a) (file_of a)) m)) in
    let refused : c.write_contents-refused.result ≡ first_standing (contents_tests (is_thin a) m) = rw c.is_thin.ensures at c.write_contents-refused.ensures.fault in
    c.or.ensures
    ∙ ap (λ (f : Option Fault). option_or f c.write_contents-refused.result) c.name_fault-nameless.ensures
    ∙ ap (λ (f : Option Fault). option_or (first_standing (nameless ∷ [])) f) refused
    ∙ sym (first-append (nameless ∷ []) (contents_tests (is_thin a) m))
