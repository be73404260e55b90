use Rattle.pe_imphash.specs.Winsock.{winsock_names_2}
use Rattle.pe_imphash.proofs.winsock.winsock_name_2.Goals as goal

pub returns : goal.returns
unfolding winsock_names_2
returns c = c.name_among.ensures
