use Rattle.std.proofs.Common.{refl}
use Rattle.json.specs.Print.{escape_byte}
use Rattle.pe_json.specs.JsonText.{member}
use Rattle.pe_json.proofs.beginning.accepted_member.Goals as goal

pub returns-then-accepted : goal.returns-then-accepted
unfolding member escape_byte
returns-then-accepted c = rw c.if-accepted.true refl

pub returns-else-accepted : goal.returns-else-accepted
unfolding member escape_byte
returns-else-accepted c = rw c.if-accepted.false refl
