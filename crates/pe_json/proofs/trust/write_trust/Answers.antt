use Rattle.pe_json.proofs.Objects.{also}
use Rattle.pe_json.proofs.trust.write_trust.Goals as goal

pub returns : goal.returns
returns g c =
    let overlay = rw (c.overlay_kind.ensures, c.file_end.ensures, c.len.ensures) at c.write_overlay.ensures in
    also _ _ c.write_digests.ensures (also _ _ c.write_certificates.ensures (also _ _ overlay c.write_rich.ensures))
