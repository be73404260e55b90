use Rattle.std.proofs.Common.{◌≡◌, ℕ, List, None, sym, subst}
use Rattle.pe_view.specs.Faults.{first_standing}
use Rattle.pe_head.specs.Head.{head_of}
use Rattle.pe_layout.specs.Plain.{plain}
use Rattle.pe_layout.specs.SectionFaults.{layout_tests}
use Rattle.pe_write.specs.PlanHeaders.{plan_headers, planned}
use Rattle.pe_write.proofs.PlanWhole.{head-planned}
use Rattle.pe_write.proofs.PlanLaws.{no_fault, lays_out}
use Rattle.pe_write.proofs.write.write_image.Goals as goal

pub returns-clause-head : goal.returns-clause-head
returns-clause-head g c =
    let plan = c.args.plan.now in
    let made = c.in_ok-push_file.ensures in
    subst (λ (bytes : List ℕ). head_of bytes ≡ plan_headers plan) (sym made.bytes) (head-planned plan made.fits)

pub returns-clause-accepted : goal.returns-clause-accepted
returns-clause-accepted g c =
    let made = c.in_ok-push_file.ensures in
    subst (λ (bytes : List ℕ). first_standing (layout_tests 0 bytes) ≡ None) (sym made.bytes) (no_fault c.args.plan.now c.in_ok-size.ensures.0 made.fits)

pub returns-clause-planned : goal.returns-clause-planned
returns-clause-planned g c =
    let plan = c.args.plan.now in
    let made = c.in_ok-push_file.ensures in
    subst (λ (bytes : List ℕ). (r : ℕ) → plain (head_of bytes) bytes r ≡ planned plan r) (sym made.bytes) (lays_out plan c.in_ok-size.ensures.0 made.fits)
