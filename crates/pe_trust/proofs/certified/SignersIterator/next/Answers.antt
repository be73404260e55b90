use Rattle.std.proofs.Common.{rules, ◌∙◌, ◌∷◌, List, ℕ, length, sym, ap}
use Rattle.pe_trust.specs.Signers.{signers_in}
use Rattle.pe_trust.specs.SignersView.{signer_view}
use Rattle.pe_trust.proofs.Rest.{signers_more}
use Rattle.pe_trust.proofs.certified.SignersIterator.next.Goals as goal

pub returns-clause-steps : goal.returns-clause-steps
returns-clause-steps c =
    signers_more c.args.self.now.bytes.now (signer_view c.in_ok-signer.signer) c.in_ok-signer.ensures
    ∙ ap (λ (rest : List ℕ). signer_view c.in_ok-signer.signer ∷ signers_in rest) (sym c.behind_first-self.ensures)

pub returns-clause-goes : goal.returns-clause-goes
returns-clause-goes c =
    let shorter = ap length (returns-clause-steps c) in
    search rules
