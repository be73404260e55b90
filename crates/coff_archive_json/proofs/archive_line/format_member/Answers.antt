use Rattle.std.proofs.Common.{refl}
use Rattle.json.specs.Print.{escape_byte}
use Rattle.pe_json.specs.JsonText.{member}
use Rattle.pe_json.specs.Listed.{more}
use Rattle.coff_archive_json.specs.ArchiveLine.{format_members}
use Rattle.coff_archive_json.proofs.archive_line.format_member.Goals as goal

pub returns-then-thin : goal.returns-then-thin
unfolding format_members more member escape_byte
returns-then-thin c = rw c.if-thin.true refl

pub returns-else-thin : goal.returns-else-thin
unfolding format_members more member escape_byte
returns-else-thin c = rw c.if-thin.false refl
