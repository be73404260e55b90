use Rattle.std.proofs.Common.{sym, ◌∙◌}
use Rattle.json.specs.Print.{escape_byte}
use Rattle.pe_json.specs.JsonText.{member, hex_string}
use Rattle.pe_json.specs.Listed.{more}
use Rattle.pe_json.specs.TrustRows.{imphash_if}
use Rattle.pe_json.proofs.Objects.{adds_none, ended}
use Rattle.pe_json.proofs.trust.write_import_hash.Goals as goal

pub returns : goal.returns
unfolding imphash_if more member hex_string escape_byte
returns g c = rw (sym c.import_hash.ensures ∙ c.in-Some.is) (ended (rw c.as_slice.ensures at c.write_hex.ensures))

pub returns-in_default : goal.returns-in_default
unfolding imphash_if more
returns-in_default g c = rw (sym c.import_hash.ensures ∙ c.in_default.is) (adds_none c.requires)
