-- The finding of the name comes before those of the contents.
use Rattle.std.proofs.Common.{◌≡◌, ◌∙◌, [], ◌∷◌, Option, ap, sym, codes}
use Rattle.std.specs.Option.{option_or}
use Rattle.pe_view.specs.declared.fault.Fault.{Fault}
use Rattle.pe_view.specs.Faults.{first_standing}
use Rattle.pe_view.specs.FirstStanding.{first-append}
use Rattle.coff_archive.specs.ArchiveFile.{file_of, is_thin}
use Rattle.coff_archive.specs.Front.{names_of}
use Rattle.coff_archive.specs.MemberView.{member_view}
use Rattle.coff_lines.specs.ArchiveLines.{contents_tests}
use Rattle.pe_json.specs.JsonText.{name, number}
use Rattle.pe_json.proofs.Objects.{also, whole_line}
use Rattle.coff_archive_json.specs.MemberLine.{name_tests, member_line}
use Rattle.coff_archive_json.proofs.member_line.write_member.Goals as goal

pub returns-clause-fault : goal.returns-clause-fault
returns-clause-fault g c =
    let a = c.args.archive.now in
    let m = member_view c.args.member in
    let tests = name_tests (names_of (is_thin a) (file_of a)) m in
    let refused : c.write_contents-refused.result ≡ first_standing (contents_tests (is_thin a) m) = rw c.is_thin.ensures at c.write_contents-refused.ensures.fault in
    c.or.ensures
    ∙ ap (λ (f : Option Fault). option_or f c.write_contents-refused.result) c.name_fault-nameless.ensures
    ∙ ap (λ (f : Option Fault). option_or (first_standing tests) f) refused
    ∙ sym (first-append tests (contents_tests (is_thin a) m))

pub returns-clause-adds : goal.returns-clause-adds
unfolding member_line
returns-clause-adds g c =
    let told = rw (c.is_thin.ensures, c.name_fault-nameless.ensures) at c.write_contents-refused.ensures.adds in
    whole_line (number (codes "schema") 1) (name (codes "archive") c.args.name.now ∷ []) _ c.begin.ensures (also _ _ c.write_header.ensures told) c.text.ensures c.text-2.ensures
