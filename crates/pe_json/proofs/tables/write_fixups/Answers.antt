use Rattle.pe_text.proofs.Adding.{◌then◌}
use Rattle.pe_json.specs.JsonText.{list}
use Rattle.pe_json.specs.TableRows.{fixup_row}
use Rattle.pe_json.proofs.Objects.{some_rows, no_rows}
use Rattle.pe_json.proofs.tables.write_fixups.Goals.{in-Some, in_default}
use Rattle.pe_json.proofs.tables.write_fixups.Goals as goal

pub returns : goal.returns
unfolding list
returns g c = elim c.match-split_first.branch [
  | in-Some w ↦
      let close = rw w.text-is at c.text-2.ensures in
      let rows = rw (some_rows fixup_row _ _ c.args.fixups.now w.in-Some.ensures.cases.0) at (w.write_fixup.ensures then w.write_next_fixups.ensures) in
      c.text.ensures then rows then close
  | in_default w ↦
      let close = rw w.text-is at c.text-2.ensures in
      rw (← no_rows fixup_row c.args.fixups.now w.in_default.ensures.cases) (c.text.ensures then close)
]
