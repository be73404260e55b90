use Rattle.pe_imphash.specs.Winsock.{winsock_names_1}
use Rattle.pe_imphash.proofs.winsock.winsock_name_1.Goals as goal

pub returns : goal.returns
unfolding winsock_names_1
returns c = c.name_among.ensures
