use Rattle.std.proofs.Common.{◌∙◌, ℕ, replicate, ap, arith}
use Rattle.std.proofs.lemmas.List.{take-replicate}
use Rattle.pe_page.proofs.cell.blanks.Goals as goal

pub returns : goal.returns
returns c = take-replicate c.min.result 256 0x20 (omega (arith, c.min.ensures)) ∙ ap (λ (n : ℕ). replicate n 0x20) c.min.ensures
