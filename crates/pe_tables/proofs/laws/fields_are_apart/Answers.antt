use Rattle.pe_tables.proofs.Counts.{fixups_few}
use Rattle.pe_tables.proofs.Fields.{fixups-fine}
use Rattle.pe_tables.proofs.laws.fields_are_apart.Goals as goal

pub returns : goal.returns
returns c = record {
  inside = λ i slots none. (fixups-fine i slots none).inside;
  apart = λ i slots none. (fixups-fine i slots none).apart;
  off_slots = λ i slots none. (fixups-fine i slots none).off;
  few = fixups_few;
}
