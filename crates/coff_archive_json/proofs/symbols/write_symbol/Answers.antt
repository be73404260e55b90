use Rattle.std.proofs.Common.{refl, codes}
use Rattle.json.specs.Print.{escape_byte}
use Rattle.pe_json.specs.JsonText.{name}
use Rattle.pe_json.proofs.Objects.{named, objects}
use Rattle.coff_archive_json.proofs.symbols.write_symbol.Goals as goal

pub returns : goal.returns
unfolding escape_byte
returns g c =
    let first = rw (named _ (codes "{") (codes "name") _ _ _ refl refl) at c.write_name.ensures in
    objects (name (codes "name") c.args.symbol.now.name.now) _ first c.write_offset_if.ensures c.text.ensures
