use Rattle.json.specs.Print.{escape_byte}
use Rattle.pe_json.specs.JsonText.{member, hex_string}
use Rattle.pe_json.specs.Listed.{more}
use Rattle.pe_json.specs.TrustRows.{digest_if}
use Rattle.pe_json.proofs.Objects.{adds_none, ended}
use Rattle.pe_json.proofs.trust.write_digest.Goals as goal

pub returns : goal.returns
unfolding digest_if more member hex_string escape_byte
returns g c = rw c.in-Some.is (ended (rw c.as_slice.ensures at c.write_hex.ensures))

pub returns-in_default : goal.returns-in_default
unfolding digest_if more
returns-in_default g c = rw c.in_default.is (adds_none c.requires)
