use Rattle.pe_records.specs.TableNames.{debug_type_names}
use Rattle.pe_records.proofs.names.debug_type_name.Goals as goal

pub returns : goal.returns
unfolding debug_type_names
returns c = c.name_among.ensures
