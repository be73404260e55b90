use Rattle.pe_page.proofs.Adding.{◌and◌}
use Rattle.pe_show.proofs.image.write_image.Goals as goal

pub returns : goal.returns
returns g c = c.write_title.ensures and c.write_headers.ensures and c.write_others.ensures and c.write_identity.ensures and c.write_sections.ensures and c.write_directories.ensures and c.write_exports.ensures and c.write_imports.ensures and c.write_delayed.ensures and c.write_fixups.ensures and c.write_beyond.ensures and c.write_image_symbols.ensures and c.write_trust.ensures and c.write_findings.ensures and c.write_refusal.ensures
