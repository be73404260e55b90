use Rattle.pe_json.specs.Headers.{directory_row}
use Rattle.pe_text.proofs.Adding.{◌then◌}
use Rattle.pe_json.specs.JsonText.{list}
use Rattle.pe_json.proofs.Objects.{some_numbered, no_numbered}
use Rattle.pe_json.proofs.directories.write_directories.Goals.{in-Some, in_default}
use Rattle.pe_json.proofs.directories.write_directories.Goals as goal

pub returns : goal.returns
unfolding list
returns g c = elim c.match-split_first.branch [
  | in-Some w ↦
      let close = rw w.text-is at c.text-2.ensures in
      let rows = rw (some_numbered directory_row _ _ c.args.directories.now w.in-Some.ensures.cases.0) at (w.write_directory.ensures then w.write_rest.ensures) in
      c.text.ensures then rows then close
  | in_default w ↦
      let close = rw w.text-is at c.text-2.ensures in
      rw (← no_numbered directory_row c.args.directories.now w.in_default.ensures.cases) (c.text.ensures then close)
]
