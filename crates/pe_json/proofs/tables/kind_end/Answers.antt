use Rattle.std.proofs.Common.{refl}
use Rattle.std.specs.Fmt.{digits}
use Rattle.json.specs.Print.{escape_byte}
use Rattle.pe_json.specs.JsonText.{member}
use Rattle.pe_json.specs.TableRows.{kind_member}
use Rattle.pe_json.proofs.tables.kind_end.Goals as goal

pub returns-in-Bits32 : goal.returns-in-Bits32
unfolding kind_member member escape_byte digits
returns-in-Bits32 c = rw c.in-Bits32.is refl

pub returns-in-Bits64 : goal.returns-in-Bits64
unfolding kind_member member escape_byte digits
returns-in-Bits64 c = rw c.in-Bits64.is refl

pub returns-in-High : goal.returns-in-High
unfolding kind_member member escape_byte
returns-in-High c = rw c.in-High.is refl

pub returns-in-Low : goal.returns-in-Low
unfolding kind_member member escape_byte
returns-in-Low c = rw c.in-Low.is refl
