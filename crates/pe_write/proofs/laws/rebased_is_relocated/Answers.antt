use Rattle.std.proofs.Common.{◌∙◌, ℕ, List, ap}
use Rattle.pe_head.specs.Head.{head_of}
use Rattle.pe_layout.specs.Plain.{plain}
use Rattle.pe_write.proofs.Rebasable.{Laws, sound, lies, kept}
use Rattle.pe_write.proofs.Rebasing.{made}
use Rattle.pe_write.proofs.Moved.{plain-rebased}
use Rattle.pe_write.proofs.laws.rebased_is_relocated.Goals as goal

pub returns : goal.returns
returns c =
    let laws : Laws = record { behind = c.sections_are_apart.ensures.behind; apart = c.sections_are_apart.ensures.apart; held = c.sections_are_apart.ensures.held; fields = c.fields_are_apart.ensures.apart } in
    λ file base r none free.
    let n = sound laws file base none in
    ap (λ (g : List ℕ). plain (head_of file) g r) (made file base n) ∙ plain-rebased (head_of file) file base (lies file base n) (kept file base n) r free
