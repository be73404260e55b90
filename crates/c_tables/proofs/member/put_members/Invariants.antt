use Rattle.std.proofs.Common.{◌≡◌, ◌≤◌, length, map, take, drop}
use Rattle.coff_archive.specs.ArchiveFile.{file_of, is_thin}
use Rattle.coff_archive.specs.MembersLeft.{members_left}
use Rattle.pe_records_c.specs.Rows.{filled}
use Rattle.c_tables.specs.MemberRows.{member_row, member_text, whole, whole_members}
use Rattle.c_tables.proofs.member.put_members.Given as goal

abbrev pub invariant-loop-read : goal.invariant-loop-read
invariant-loop-read l =
    let all = whole_members (is_thin l.archive) (file_of l.archive) in
    record {
      told : map member_text l.rows ≡ filled (member_row (is_thin l.archive) (file_of l.archive)) (take l.count all) (map member_text l.initial.rows);
      left : drop l.count all ≡ whole (members_left l.read-iterator);
      within : l.count ≤ length all;
    }
