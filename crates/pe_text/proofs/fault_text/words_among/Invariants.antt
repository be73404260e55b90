use Rattle.std.proofs.Common.{◌≡◌, drop, map}
use Rattle.pe_text.specs.FaultWords.{rule_view, words_in}
use Rattle.pe_text.proofs.fault_text.words_among.Given as goal

abbrev pub invariant-loop-of : goal.invariant-loop-of
invariant-loop-of l = words_in (drop l.of-index (map rule_view l.rules)) l.number ≡ words_in (map rule_view l.rules) l.number
