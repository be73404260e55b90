-- There is no unit, or the first one is alone.
use Rattle.std.proofs.Common.{◌∙◌, ◌∷◌, List, ℕ, ap, sym}
use Rattle.std.specs.Char.Utf16.{utf16_lossy_chars}
use Rattle.pe_version.specs.Units.{units, characters}
use Rattle.pe_version.proofs.Characters.{of_lone, of_none}
use Rattle.pe_version.proofs.utf16.first_char.Goals as goal

pub returns-in_err-unit : goal.returns-in_err-unit
returns-in_err-unit c = rw c.from_residual.ensures (ap utf16_lossy_chars c.in_err-unit.ensures ∙ of_none)

pub returns-in-None : goal.returns-in-None
returns-in-None c =
    let rest : List ℕ = c.in_ok-unit.rest.now in
    ap utf16_lossy_chars c.in_ok-unit.ensures
    ∙ of_lone c.in_ok-unit.unit (units rest) c.in-None.ensures
    ∙ ap (λ (x : ℕ). x ∷ characters rest) (sym c.lone_char.ensures)
