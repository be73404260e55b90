use Rattle.pe_head.specs.Head.{head_of}
use Rattle.pe_layout.specs.Image.{image_of_file}
use Rattle.pe_write.specs.Rebase.{IsFree}
use Rattle.pe_write.proofs.Writes.{rebased_from}
use Rattle.std.proofs.Common.{◌∙◌, ℕ, List, ap, sym}
use Rattle.pe_tables.specs.Fixups.{fixups_of}
use Rattle.pe_tables.specs.Relocated.{relocated}
use Rattle.pe_write.proofs.Rebasing.{made}
use Rattle.pe_write.proofs.Again.{relocated-again}
use Rattle.pe_write.proofs.Numbered.{fixups_numbered, relocated_numbered}
use Rattle.pe_write.proofs.Rebasable.{Laws, sound, image_rebased}
use Rattle.pe_write.proofs.laws.rebased_again.Goals as goal

pub returns : goal.returns
returns c =
    let laws : Laws = record { behind = c.sections_are_apart.ensures.behind; apart = c.sections_are_apart.ensures.apart; held = c.sections_are_apart.ensures.held; fields = c.fields_are_apart.ensures.apart } in
    λ file base image at r none late same aligned free.
    let g = rebased_from (head_of file) file base in
    let n = sound laws file base none in
    let is = made file base n in
    let own = sym (ap (λ (bs : List ℕ). fixups_of (image_of_file image bs)) is) ∙ same in
    let fixups = fixups_numbered 0 image (head_of g) g ∙ own ∙ fixups_numbered image 0 (head_of file) file in
    ap (λ (bs : List ℕ). relocated (image_of_file image bs) at r) is
    ∙ relocated_numbered image 0 (head_of g) g at r
    ∙ relocated-again (IsFree (head_of file)) (image_of_file 0 file) (image_of_file 0 g) base (image_rebased file base n late fixups) at r aligned free
    ∙ relocated_numbered 0 image (head_of file) file at r
