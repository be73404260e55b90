-- Only a plain object's header may be another's.
use denote.Param.{number}
use Rattle.std.proofs.Common.{rules, false, ◌≡◌, ◌∙◌, ◌≤◌, ℕ, Bool, length, sym, ap, subst, arith}
use Rattle.std.proofs.lemmas.List.{length-map}
use Rattle.coff_read.specs.ObjectFaults.{is_other_header}
use Rattle.coff_read.specs.ObjectView.{section_view}
use Rattle.coff_object.specs.FormWriteFaults.{most_sections, is_misread}
use Rattle.coff_object.specs.PartsView.{parts_view}
use Rattle.coff_object.specs.contracts.write.is_misread.{BIG-type}
use Rattle.coff_object.proofs.WrittenSize.{other_is}
use Rattle.coff_object.proofs.write.is_misread.Goals as goal

pub returns : goal.returns
returns g c =
    let o = parts_view g.S.WideSymbol.view c.args.object.now in
    let plain : BIG-type g.row.A g.row.S (number g.row.BIG) ≡ false = search rules in
    let count = sym (length-map c.args.object.now.sections.now section_view) in
    let most : length c.args.object.now.sections.now ≤ 65535 = subst (λ (b : Bool). length c.args.object.now.sections.now ≤ most_sections b) plain c.requires in
    c.is_other_header.ensures ∙ ap (λ (n : ℕ). is_other_header o.machine n o.time_stamp) count ∙ sym (other_is o (omega arith) (omega arith) (omega (arith, most, count))) ∙ ap (λ (b : Bool). is_misread b o) (sym plain)
