use Rattle.pe_set.proofs.Bound.{is_bound, bound_is}
use Rattle.pe_set.proofs.laws.slots_are_bound_to_their_exports.Goals as goal

pub returns : goal.returns
returns c = λ s i x b. (is_bound s i x b (c.searches_end_in_one_way.ensures.ends s x.module_name x.key), bound_is s i x b (c.searches_end_in_one_way.ensures.one s x.module_name x.key))
