use Rattle.std.proofs.Common.{rules, ◌∙◌, ◌+◌, ℕ, ◌∷◌, length, sym, ap}
use Rattle.pe_view.specs.View.{bytes_of}
use Rattle.pe_trust.specs.Certificates.{Entry, certificate_view, entries}
use Rattle.pe_trust.proofs.OneEntry.{step_more}
use Rattle.pe_trust.proofs.entries.CertificatesIterator.next.Goals as goal

pub returns-clause-steps : goal.returns-clause-steps
returns-clause-steps c =
    let s = c.args.self.now in
    let x : Entry = certificate_view c.in_ok-certificate.certificate in
    step_more (bytes_of s.file) s.end s.at x c.in_ok-certificate.ensures.value
    ∙ ap (λ (n : ℕ). x ∷ entries (bytes_of s.file) s.end (s.at + n)) (sym c.padded.ensures)

pub returns-clause-goes : goal.returns-clause-goes
returns-clause-goes c =
    let shorter = ap length (returns-clause-steps c) in
    search rules
