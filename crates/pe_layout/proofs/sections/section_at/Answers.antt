use Rattle.std.proofs.lemmas.List.{get_or_default}
use Rattle.pe_layout.proofs.sections.section_at.Goals as goal

pub returns : goal.returns
returns c = λ d. get_or_default c.args.sections.now c.args.index _ d c.requires
