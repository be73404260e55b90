use Rattle.pe_json.specs.ImageRecords.{hash_if}
use Rattle.pe_json.specs.Listed.{more}
use Rattle.pe_json.proofs.Objects.{adds_none}
use Rattle.pe_json.proofs.refused.write_hash_if.Goals as goal

pub returns-in-Some : goal.returns-in-Some
unfolding hash_if
returns-in-Some g c = rw c.in-Some.is c.write_import_hash.ensures

pub returns-in_default : goal.returns-in_default
unfolding hash_if more
returns-in_default g c = rw c.in_default.is (adds_none c.requires)
