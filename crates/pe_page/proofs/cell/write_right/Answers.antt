use Rattle.std.proofs.Common.{◌∙◌}
use Rattle.pe_text.proofs.Adding.{◌then◌}
use Rattle.pe_page.proofs.cell.write_right.Goals as goal

pub returns : goal.returns
returns g c =
    let digits = c.as_bytes-digits.ensures.value ∙ c.format.ensures.text in
    (rw (c.blanks.ensures, c.saturating_sub.ensures, digits) at c.text.ensures) then (rw digits at c.text-2.ensures)
