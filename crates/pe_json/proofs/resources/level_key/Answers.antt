use Rattle.std.proofs.Common.{refl}
use Rattle.json.specs.Print.{escape_byte}
use Rattle.pe_json.proofs.resources.level_key.Goals as goal

pub returns-in-Kind : goal.returns-in-Kind
unfolding escape_byte
returns-in-Kind c = rw c.in-Kind.is refl

pub returns-in-Name : goal.returns-in-Name
unfolding escape_byte
returns-in-Name c = rw c.in-Name.is refl

pub returns-in-Language : goal.returns-in-Language
unfolding escape_byte
returns-in-Language c = rw c.in-Language.is refl
