use Rattle.std.proofs.Common.{◌∙◌, ℕ, List, ap}
use Rattle.pe_view.specs.Faults.{first_standing}
use Rattle.pe_head.specs.Head.{head_of}
use Rattle.pe_layout.specs.SectionFaults.{layout_tests}
use Rattle.pe_write.proofs.Writes.{rebased_from}
use Rattle.pe_write.proofs.Rebasable.{Laws, sound, keeps_head}
use Rattle.pe_write.proofs.Rebasing.{made}
use Rattle.pe_write.proofs.HeadKept.{head-kept, layout_tests-kept}
use Rattle.pe_write.proofs.laws.rebased_headers.Goals as goal

pub returns-clause-head : goal.returns-clause-head
returns-clause-head c =
    let laws : Laws = record { behind = c.sections_are_apart.ensures.behind; apart = c.sections_are_apart.ensures.apart; held = c.sections_are_apart.ensures.held; fields = c.fields_are_apart.ensures.apart } in
    λ file base none late.
    let n = sound laws file base none in
    ap head_of (made file base n) ∙ head-kept (rebased_from (head_of file) file base) file base (keeps_head file base n late)

pub returns-clause-same : goal.returns-clause-same
returns-clause-same c =
    let laws : Laws = record { behind = c.sections_are_apart.ensures.behind; apart = c.sections_are_apart.ensures.apart; held = c.sections_are_apart.ensures.held; fields = c.fields_are_apart.ensures.apart } in
    λ file base image none late.
    let n = sound laws file base none in
    ap (λ (g : List ℕ). first_standing (layout_tests image g)) (made file base n) ∙ ap first_standing (layout_tests-kept (rebased_from (head_of file) file base) file base image (keeps_head file base n late))

pub returns-clause-none : goal.returns-clause-none
returns-clause-none c =
    let laws : Laws = record { behind = c.sections_are_apart.ensures.behind; apart = c.sections_are_apart.ensures.apart; held = c.sections_are_apart.ensures.held; fields = c.fields_are_apart.ensures.apart } in
    λ file base none late.
    let n = sound laws file base none in
    returns-clause-same c file base 0 none late ∙ n.none.layout
