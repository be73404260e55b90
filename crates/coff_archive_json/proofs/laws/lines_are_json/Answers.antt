use Rattle.std.proofs.Common.{subst, sym}
use Rattle.coff_archive_json.specs.JsonLines.{AreJsonLines}
use Rattle.coff_archive_json.proofs.LineValues.{archive_is_line, are_lines, read_is_line}
use Rattle.coff_archive_json.proofs.laws.lines_are_json.Goals as goal

pub returns : goal.returns
returns c = record {
  member = λ archive names thin read. read_is_line archive names thin read;
  archive = λ archive file thin fault. archive_is_line archive file thin fault;
  all = λ archive file text outcome is. subst AreJsonLines (sym is.1) (are_lines archive file);
}
