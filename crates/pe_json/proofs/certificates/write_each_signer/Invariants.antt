use Rattle.std.proofs.Common.{◌≡◌, ◌++◌, true, ℕ, List, map}
use Rattle.pe_text.specs.TextWriter.{Adds}
use Rattle.pe_trust.specs.SignersView.{signers_left}
use Rattle.pe_json.specs.CertificateRows.{signer_row}
use Rattle.pe_json.specs.Listed.{is_nil, items_text}
use Rattle.pe_json.proofs.certificates.write_each_signer.Given as goal

abbrev pub invariant-loop-signer : goal.invariant-loop-signer
invariant-loop-signer g l = record {
  can_next : (goal.iterator-loop-signer g).can_next l.signer-iterator;
  is_finite : (goal.iterator-loop-signer g).is_finite l.signer-iterator;
  rows : (written : List (List ℕ)) × Adds g.W.Sink.taken g.W.Sink.failures l.initial.text l.text (items_text true written)
      × (written ++ map signer_row (signers_left l.signer-iterator) ≡ map signer_row (signers_left l.signers))
      × (l.first ≡ is_nil written);
}
