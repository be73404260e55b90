use Rattle.std.proofs.Common.{ℕ, arith, refl, length-drop, length-take}
use Rattle.pe_text.proofs.Adding.{Adds-failed}
use Rattle.pe_text.proofs.Plain.{escaped-then}
use Rattle.pe_text.proofs.text_writer.TextWriter.all_escaped.Goals as goal

pub loop-at-preserved : goal.loop-at-preserved
loop-at-preserved g c = record {
  within = omega (arith, length-take {A = ℕ}, length-drop {A = ℕ}, c.some_escaped-at.ensures.fits);
  adds = escaped-then _ _ _ c.loop-at.invariant.adds c.some_escaped-at.ensures.adds;
}

pub returns-then-self : goal.returns-then-self
returns-then-self g c = Adds-failed g.W.Sink.taken g.W.Sink.failures _ _ _ c.if-self.true refl refl
