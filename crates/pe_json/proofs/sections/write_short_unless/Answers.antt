use Rattle.std.proofs.Common.{refl, codes}
use Rattle.json.specs.Print.{escape_byte}
use Rattle.pe_json.specs.Listed.{more}
use Rattle.pe_json.proofs.Objects.{named, ended, adds_none}
use Rattle.pe_json.proofs.sections.write_short_unless.Goals as goal

pub returns-then-is_name : goal.returns-then-is_name
unfolding more
returns-then-is_name g c = rw c.if-is_name.true (adds_none c.requires)

pub returns : goal.returns
unfolding more escape_byte
returns g c = rw c.if-is_name.false (ended (rw (named _ (codes ",") (codes "short_name") _ _ _ refl refl) at c.write_name.ensures))
