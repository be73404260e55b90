use Rattle.pe_json.proofs.Objects.{also}
use Rattle.pe_json.proofs.records.write_beyond.Goals as goal

pub returns : goal.returns
returns g c =
    let findings = rw c.requires.found at c.write_findings.ensures in
    let trust = rw c.headers-2.ensures at c.write_trust.ensures in
    let symbols = rw c.headers.ensures at c.write_image_symbols.ensures in
    let hash = rw c.requires.imported at c.write_import_hash.ensures in
    also _ _ c.write_records.ensures (also _ _ c.write_delay_imports.ensures (also _ _ c.write_resources.ensures (also _ _ symbols (also _ _ trust (also _ _ hash findings)))))
