use Rattle.std.proofs.Common.{refl}
use Rattle.pe_text.proofs.header_fields.windows_fields.Goals as goal

pub returns : goal.returns
returns c = rw c.extended_width-extended.ensures.value refl
