use Rattle.std.proofs.Common.{◌∙◌, refl, sym}
use Rattle.coff_archive_json.specs.MemberLine.{own_refusal, held_members}
use Rattle.coff_archive_json.proofs.Members.{nothing_told}
use Rattle.coff_archive_json.proofs.member_line.write_contents.Goals as goal

pub returns-then-is_special-clause-adds : goal.returns-then-is_special-clause-adds
unfolding own_refusal held_members
returns-then-is_special-clause-adds g c =
    let special = sym c.is_special.ensures ∙ c.if-is_special.true in
    nothing_told _ _ _ (rw special refl) (rw special refl) c.write_verdict.ensures

pub returns-then-thin-clause-adds : goal.returns-then-thin-clause-adds
unfolding own_refusal held_members
returns-then-thin-clause-adds g c =
    let special = sym c.is_special.ensures ∙ c.if-is_special.false in
    nothing_told _ _ _ (rw (special, c.if-thin.true) refl) (rw (special, c.if-thin.true) refl) c.write_verdict-then-thin.ensures

pub returns-then-is_import-clause-adds : goal.returns-then-is_import-clause-adds
unfolding own_refusal held_members
returns-then-is_import-clause-adds g c =
    let special = sym c.is_special.ensures ∙ c.if-is_special.false in
    let import = rw c.contents-contents.ensures at (sym c.is_import.ensures ∙ c.if-is_import.true) in
    rw (special, c.if-thin.false, import) (rw c.contents-contents.ensures at c.write_import_object.ensures.adds)

pub returns-then-write_object-clause-adds : goal.returns-then-write_object-clause-adds
unfolding own_refusal held_members
returns-then-write_object-clause-adds g c =
    let special = sym c.is_special.ensures ∙ c.if-is_special.false in
    let other = rw c.contents-contents.ensures at (sym c.is_import.ensures ∙ c.if-is_import.false) in
    rw (special, c.if-thin.false, other) (rw c.contents-contents.ensures at c.write_object.ensures.adds)

pub returns-clause-adds : goal.returns-clause-adds
unfolding own_refusal held_members
returns-clause-adds g c =
    let special = sym c.is_special.ensures ∙ c.if-is_special.false in
    let other = rw c.contents-contents.ensures at (sym c.is_import.ensures ∙ c.if-is_import.false) in
    rw (special, c.if-thin.false, other) (rw c.contents-contents.ensures at c.write_object.ensures.adds)
