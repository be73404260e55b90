-- The words are in the table of faults, or else in that of findings.
use Rattle.std.proofs.Common.{◌∙◌, ℕ, List, Option, ap, sym}
use Rattle.std.specs.Prelude.{map}
use Rattle.std.specs.Option.{option_or}
use Rattle.pe_text.specs.declared.fault_text.TheConstants.{RULES, FINDING_RULES}
use Rattle.pe_text.specs.FaultWords.{Words, rules, words_in}
use Rattle.pe_text.proofs.RuleWords.{words-append}
use Rattle.pe_text.proofs.fault_text.fault_words.Goals as goal

abbrev of_faults : List (ℕ × Words)
of_faults = map (λ row. (row.0, (row.1.now, row.2.now))) RULES

abbrev of_findings : List (ℕ × Words)
of_findings = map (λ row. (row.0, (row.1.now, row.2.now))) FINDING_RULES

pub returns-in-Some : goal.returns-in-Some
unfolding rules
returns-in-Some c =
    sym (words-append of_faults of_findings c.args.number ∙ ap (λ (found : Option Words). option_or found (words_in of_findings c.args.number)) (sym c.in-Some.ensures))

pub returns-in-None : goal.returns-in-None
unfolding rules
returns-in-None c =
    c.words_among-in-None.ensures
    ∙ sym (words-append of_faults of_findings c.args.number ∙ ap (λ (found : Option Words). option_or found (words_in of_findings c.args.number)) (sym c.in-None.ensures))
