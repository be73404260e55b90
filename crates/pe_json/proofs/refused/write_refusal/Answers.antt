use Rattle.std.proofs.Common.{refl, codes}
use Rattle.json.specs.Print.{escape_byte}
use Rattle.pe_json.proofs.Objects.{texted, also}
use Rattle.pe_json.proofs.refused.write_refusal.Goals as goal

pub returns : goal.returns
unfolding escape_byte
returns g c =
    let kind = rw (c.kind_text.ensures, c.other_kind.ensures) at (rw (texted _ (codes "kind") _ refl) at c.write_text_if.ensures) in
    let fault = rw c.fault_detail.ensures at c.write_fault.ensures in
    also _ _ kind fault
