use Rattle.pe_page.proofs.Adding.{◌and◌}
use Rattle.pe_record_pages.proofs.certificates.write_signers.Goals as goal

pub loop-signer-preserved : goal.loop-signer-preserved
loop-signer-preserved g c = record { ready = c.write_signer.ensures.1.ready; adds = c.loop-signer.invariant.adds and c.write_signer.ensures }
