use Rattle.std.proofs.Common.{refl}
use Rattle.json.specs.Print.{escape_byte}
use Rattle.pe_json.specs.JsonText.{member}
use Rattle.pe_json.proofs.object.format_member.Goals as goal

pub returns-then-is_big : goal.returns-then-is_big
unfolding member escape_byte
returns-then-is_big c = rw c.if-is_big.true refl

pub returns-else-is_big : goal.returns-else-is_big
unfolding member escape_byte
returns-else-is_big c = rw c.if-is_big.false refl
