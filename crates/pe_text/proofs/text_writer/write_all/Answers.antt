use Rattle.std.proofs.Common.{ℕ, arith, length-drop, length-take, ◌∙◌}
use Rattle.pe_text.proofs.Adding.{taken-more}
use Rattle.pe_text.proofs.text_writer.write_all.Goals as goal

pub loop-at-preserved : goal.loop-at-preserved
loop-at-preserved g c = record {
  within = omega (arith, length-take {A = ℕ}, length-drop {A = ℕ}, c.in_ok-at.ensures.fits);
  taken = taken-more _ _ _ _ _ _ c.loop-at.invariant.taken c.in_ok-at.ensures.taken;
  count = c.in_ok-at.ensures.failures ∙ c.loop-at.invariant.count;
}
