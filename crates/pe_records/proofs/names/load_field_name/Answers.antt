use Rattle.pe_records.specs.TableNames.{load_field_names}
use Rattle.pe_records.proofs.names.load_field_name.Goals as goal

pub returns : goal.returns
unfolding load_field_names
returns c = c.name_among.ensures
