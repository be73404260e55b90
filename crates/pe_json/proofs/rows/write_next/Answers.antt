use Rattle.std.proofs.lemmas.Bool.{ne_eqb}
use Rattle.pe_text.proofs.Adding.{◌then◌}
use Rattle.pe_json.specs.JsonText.{with_commas}
use Rattle.pe_json.specs.Listed.{more}
use Rattle.pe_json.proofs.Objects.{ended}
use Rattle.pe_json.proofs.rows.write_next.Goals as goal

pub returns-then-index-eq0 : goal.returns-then-index-eq0
unfolding with_commas
returns-then-index-eq0 g c = rw c.if-index-eq0.true (rw c.if-index-eq0.true at c.write.ensures)

pub returns-else-index-eq0 : goal.returns-else-index-eq0
unfolding more
returns-else-index-eq0 g c = rw (ne_eqb c.args.index 0 c.if-index-eq0.false) (ended (c.text.ensures then c.write-else-index-eq0.ensures))
