use Rattle.pe_page.proofs.Adding.{◌and◌}
use Rattle.pe_show.proofs.image.write_beyond.Goals as goal

pub returns : goal.returns
returns g c = c.write_debug.ensures and c.write_functions.ensures and c.write_tls.ensures and c.write_load_configuration.ensures and c.write_resources.ensures
