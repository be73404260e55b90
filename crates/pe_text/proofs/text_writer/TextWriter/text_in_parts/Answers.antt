use Rattle.std.proofs.Common.{ℕ, arith, length-drop, length-take}
use Rattle.pe_text.proofs.Adding.{part-then}
use Rattle.pe_text.proofs.text_writer.TextWriter.text_in_parts.Goals as goal

pub loop-at-preserved : goal.loop-at-preserved
loop-at-preserved g c = record {
  within = omega (arith, length-take {A = ℕ}, length-drop {A = ℕ}, c.hold-at.ensures.fits);
  adds = part-then _ _ _ c.loop-at.invariant.adds c.hold-at.ensures.adds;
}
