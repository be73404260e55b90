use Rattle.pe_text.proofs.Adding.{◌then◌}
use Rattle.pe_json.specs.JsonText.{with_commas}
use Rattle.pe_json.specs.Listed.{more}
use Rattle.pe_json.proofs.Objects.{ended}
use Rattle.pe_json.proofs.version.write_next_table.Goals as goal

pub returns-then-first : goal.returns-then-first
unfolding with_commas
returns-then-first g c = rw c.if-first.true c.write_table.ensures

pub returns-else-first : goal.returns-else-first
unfolding more
returns-else-first g c = rw c.if-first.false (ended (c.text.ensures then c.write_table-else-first.ensures))
