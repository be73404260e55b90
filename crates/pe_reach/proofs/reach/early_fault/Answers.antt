use Rattle.std.proofs.Common.{◌≡◌, ◌∙◌, ℕ, List, length, arith, ap, sym}
use Rattle.std.specs.Prelude.{◌==◌}
use Rattle.std.proofs.lemmas.Bool.{ne_eqb}
use Rattle.pe_view.specs.Number.{num, byte_of}
use Rattle.pe_reach.proofs.Early.{refuse_large, refuse_other, is_size_fault, early_large, early_other}
use Rattle.pe_reach.proofs.reach.early_fault.Goals as goal

pub returns-then-len-gt-MOST-clause-exact : goal.returns-then-len-gt-MOST-clause-exact
returns-then-len-gt-MOST-clause-exact c =
    early_large c.args.begin.now c.args.len c.size_fault.result (omega (arith, c.if-len-gt-MOST.true))
    (is_size_fault c.args.len c.size_fault.result c.size_fault.ensures.exact c.size_fault.ensures.fault)

pub returns-then-len-gt-MOST-clause-refuses : goal.returns-then-len-gt-MOST-clause-refuses
returns-then-len-gt-MOST-clause-refuses c = refuse_large c.args.begin.now c.args.len c.size_fault.result c.size_fault.ensures.fault

pub returns-in-Some-clause-exact : goal.returns-in-Some-clause-exact
returns-in-Some-clause-exact c =
    let begin = c.args.begin.now in
    let read = c.in-Some.ensures in
    let same : num (byte_of begin) 0 2 ≡ c.in-Some.number = ap (λ (bytes : List ℕ). num (byte_of bytes) 0 2) (sym c.new.ensures) ∙ sym read.1 in
    sym (early_other begin c.args.len (omega (arith, c.if-len-gt-MOST.false)) c.if-len-ge64.true (omega (arith, read.0, ap (λ (bytes : List ℕ). length bytes) c.new.ensures))
    (ap (λ n. n == 0x5a4d) same ∙ ne_eqb c.in-Some.number 0x5a4d c.if-number-ne-MZ.true))

pub returns-in-Some-clause-refuses : goal.returns-in-Some-clause-refuses
returns-in-Some-clause-refuses c =
    let begin = c.args.begin.now in
    let read = c.in-Some.ensures in
    let same : num (byte_of begin) 0 2 ≡ c.in-Some.number = ap (λ (bytes : List ℕ). num (byte_of bytes) 0 2) (sym c.new.ensures) ∙ sym read.1 in
    refuse_other begin c.args.len (omega (arith, c.if-len-gt-MOST.false)) c.if-len-ge64.true (omega (arith, read.0, ap (λ (bytes : List ℕ). length bytes) c.new.ensures))
    (ap (λ n. n == 0x5a4d) same ∙ ne_eqb c.in-Some.number 0x5a4d c.if-number-ne-MZ.true)
