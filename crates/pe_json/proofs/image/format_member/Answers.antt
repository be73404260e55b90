use Rattle.std.proofs.Common.{refl}
use Rattle.json.specs.Print.{escape_byte}
use Rattle.pe_json.specs.JsonText.{member}
use Rattle.pe_json.proofs.image.format_member.Goals as goal

pub returns-in-Pe32 : goal.returns-in-Pe32
unfolding member escape_byte
returns-in-Pe32 c = rw c.in-Pe32.is refl

pub returns-in-Pe32Plus : goal.returns-in-Pe32Plus
unfolding member escape_byte
returns-in-Pe32Plus c = rw c.in-Pe32Plus.is refl
