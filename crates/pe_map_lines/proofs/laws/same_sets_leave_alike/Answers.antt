use Rattle.pe_map_lines.proofs.SameSets.{sets_agree, unbound_follows}
use Rattle.pe_map_lines.proofs.laws.same_sets_leave_alike.Goals as goal

pub returns : goal.returns
returns c = λ policy es fs window same. unbound_follows policy es fs window (sets_agree es fs same) (c.same_sets_map_alike.ensures policy es fs window same)
