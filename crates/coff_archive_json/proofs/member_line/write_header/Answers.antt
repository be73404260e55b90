use Rattle.std.proofs.Common.{[], ◌∷◌, codes}
use Rattle.json.specs.Print.{escape_byte}
use Rattle.pe_text.proofs.Adding.{◌then◌}
use Rattle.pe_json.specs.JsonText.{member, number}
use Rattle.pe_json.specs.Listed.{more}
use Rattle.pe_json.proofs.Objects.{also, ended}
use Rattle.coff_archive_json.specs.MemberLine.{header_members}
use Rattle.coff_archive_json.proofs.member_line.write_header.Goals as goal

-- After a failed write the members count as written.
pub returns-then-has_failed : goal.returns-then-has_failed
returns-then-has_failed g c = c.has_failed.ensures.ends c.if-has_failed.true _

pub returns : goal.returns
unfolding header_members more member escape_byte
returns g c =
    let name = rw c.name.ensures at c.write_name_if.ensures in
    also _ (number (codes "offset") c.args.member.offset ∷ number (codes "size") c.args.member.size ∷ []) name (c.write_number.ensures then ended c.write_number-2.ensures)
