use Rattle.pe_resource_pages.specs.ResourceTypes.{resource_type_names}
use Rattle.pe_resource_pages.proofs.resource_types.resource_type_name.Goals as goal

pub returns : goal.returns
unfolding resource_type_names
returns c = c.name_among.ensures
