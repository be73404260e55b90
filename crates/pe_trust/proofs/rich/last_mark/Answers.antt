use Rattle.std.proofs.Common.{◌∙◌, ℕ, ap, sym, arith}
use Rattle.std.specs.Prelude.{bit_xor}
use Rattle.pe_view.specs.View.{bytes_of}
use Rattle.std.proofs.lemmas.Bool.{eq-eqb, ne_eqb}
use Rattle.pe_trust.proofs.Marks.{mark_before, mark_here, none_below}
use Rattle.pe_trust.proofs.rich.last_mark.Goals as goal

pub returns-then-word-key-clause-value : goal.returns-then-word-key-clause-value
returns-then-word-key-clause-value c =
    sym (mark_here (bytes_of c.args.file) c.args.key c.args.mark c.loop-index.index c.loop-index-test.true (eq-eqb _ _ (ap (λ (w : ℕ). bit_xor w c.args.key) (sym c.word.ensures) ∙ c.if-word-key.true))) ∙ c.loop-index.invariant.0

pub loop-index-preserved : goal.loop-index-preserved
loop-index-preserved c =
    (sym (mark_before (bytes_of c.args.file) c.args.key c.args.mark c.loop-index.index c.loop-index-test.true (ne_eqb _ _ (λ same. c.if-word-key.false (ap (λ (w : ℕ). bit_xor w c.args.key) c.word.ensures ∙ same)))) ∙ c.loop-index.invariant.0, (let e = c.loop-index.invariant.1 in omega (arith, e)))

pub returns-clause-value : goal.returns-clause-value
returns-clause-value c = sym (none_below (bytes_of c.args.file) c.args.key c.args.mark c.loop-index.index c.loop-index-test.false) ∙ c.loop-index.invariant.0
