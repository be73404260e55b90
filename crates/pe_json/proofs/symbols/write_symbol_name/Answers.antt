use Rattle.std.proofs.Common.{refl, codes}
use Rattle.json.specs.Print.{escape_byte}
use Rattle.pe_json.specs.Listed.{more}
use Rattle.pe_json.specs.ObjectLine.{symbol_name}
use Rattle.pe_json.proofs.Objects.{named, ended}
use Rattle.pe_json.proofs.symbols.write_symbol_name.Goals as goal

pub returns : goal.returns
unfolding symbol_name more escape_byte
returns g c = ended (rw (named _ (codes ",") (codes "name") _ _ _ refl refl) at c.write_name.ensures)
