use Rattle.std.proofs.Common.{refl}
use Rattle.json.specs.Print.{escape_byte}
use Rattle.pe_json.proofs.structure.member_begin.Goals as goal

pub returns-in-LoadConfiguration : goal.returns-in-LoadConfiguration
unfolding escape_byte
returns-in-LoadConfiguration c = rw c.in-LoadConfiguration.is refl

pub returns-in-ClrHeader : goal.returns-in-ClrHeader
unfolding escape_byte
returns-in-ClrHeader c = rw c.in-ClrHeader.is refl
