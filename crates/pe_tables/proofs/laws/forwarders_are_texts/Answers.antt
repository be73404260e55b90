use Rattle.pe_tables.proofs.Forwarding.{forwarder-text}
use Rattle.pe_tables.proofs.laws.forwarders_are_texts.Goals as goal

pub returns : goal.returns
returns c = forwarder-text
