-- A member has a name, or finding 304 stands.
use Rattle.std.proofs.Common.{◌∙◌, refl, sym}
use Rattle.std.proofs.lemmas.Bool.{not-true, not-false}
use Rattle.coff_lines.proofs.member_faults.name_fault.Goals as goal

pub returns-then-has_name : goal.returns-then-has_name
returns-then-has_name c = rw (not-true _ (sym c.has_name.ensures ∙ c.if-has_name.true)) refl

pub returns : goal.returns
returns c = rw (not-false _ (sym c.has_name.ensures ∙ c.if-has_name.false), c.member_fault.ensures) refl
