-- A pair of surrogates is one character.
use Rattle.std.proofs.Common.{◌∙◌, ◌∷◌, List, ℕ, ap, sym}
use Rattle.std.specs.Char.Utf16.{utf16_lossy_chars}
use Rattle.pe_version.specs.Units.{units, characters}
use Rattle.pe_version.proofs.Characters.{of_pair}
use Rattle.pe_version.proofs.utf16.first_pair.Goals as goal

pub returns : goal.returns
returns c =
    let rest : List ℕ = c.in_ok-low.after.now in
    ap (λ (us : List ℕ). utf16_lossy_chars (c.args.high ∷ us)) c.in_ok-low.ensures
    ∙ of_pair c.args.high c.in_ok-low.low (units rest) (sym c.is_pair.ensures ∙ c.if-not-is_pair.false)
    ∙ ap (λ (x : ℕ). x ∷ characters rest) (sym c.pair_char.ensures)
