use Rattle.std.proofs.Common.{◌∙◌, ap}
use Rattle.std.specs.Prelude.{Option}
use Rattle.pe_reach.specs.Views.{seen_of}
use Rattle.pe_json.specs.ImageRecords.{own_findings}
use Rattle.pe_json.specs.Listed.{more}
use Rattle.pe_json.specs.declared.beyond.Beyond.{Beyond}
use Rattle.pe_json.proofs.Objects.{adds_none, also}
use Rattle.pe_json.proofs.refused.write_own.Goals as goal

pub returns : goal.returns
returns g c =
    let image = c.args.image in
    let trust = rw c.beginning.ensures at c.write_trust.ensures in
    let found = rw (c.requires.found ∙ ap (λ (beyond : Option Beyond). own_findings beyond (seen_of image.file) image.headers.now) c.in-Some.is) at c.write_findings.ensures in
    rw c.in-Some.is (also _ _ trust (also _ _ c.write_hash_if.ensures found))

pub returns-in_default : goal.returns-in_default
unfolding more
returns-in_default g c = rw c.in_default.is (adds_none c.requires.ready)
