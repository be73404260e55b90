use Rattle.std.proofs.Common.{refl, arith, ◌∙◌}
use Rattle.std.proofs.lemmas.List.{length-set}
use Rattle.pe_text.specs.Text.{hex}
use Rattle.pe_text.proofs.Widths.{hex-before}
use Rattle.pe_text.proofs.digits.hex_digits.Goals as goal

pub loop-place-init : goal.loop-place-init
unfolding hex
loop-place-init c = record { room = refl; last = refl }

pub loop-place-preserved : goal.loop-place-preserved
loop-place-preserved c =
    let i = c.loop-place.invariant in
    record {
      room = length-set c.loop-place.digits _ _ ∙ i.room;
      last = hex-before c.loop-place.place c.args.number _ c.loop-place.digits (omega arith) i.room c.hex_digit.ensures i.last;
    }
