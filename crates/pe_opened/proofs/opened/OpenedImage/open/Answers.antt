use Rattle.pe_opened.proofs.Kept.{guessed}
use Rattle.pe_opened.proofs.opened.OpenedImage.open.Goals as goal

pub invariant_of-result : goal.invariant_of-result
invariant_of-result c = (c.in_ok-image.ensures.exact.0, guessed c.args.file.now c.in_ok-image.image c.guess_names.new.self c.in_ok-image.ensures.exact.1 c.guess_names.ensures)
