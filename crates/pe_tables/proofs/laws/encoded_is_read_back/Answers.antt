use Rattle.pe_tables.proofs.Decoded.{table_read}
use Rattle.pe_tables.proofs.laws.encoded_is_read_back.Goals as goal

pub returns : goal.returns
returns c = λ i d fixups whole. table_read i d fixups whole.fields whole.bytes whole.size whole.small
