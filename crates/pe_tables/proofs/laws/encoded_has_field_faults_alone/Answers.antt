use Rattle.pe_tables.proofs.EncodedFaults.{table-spares}
use Rattle.pe_tables.proofs.laws.encoded_has_field_faults_alone.Goals as goal

pub returns : goal.returns
returns c = λ i d slots fixups fault whole first. table-spares i d slots fixups fault whole.fields whole.bytes whole.size whole.small first
