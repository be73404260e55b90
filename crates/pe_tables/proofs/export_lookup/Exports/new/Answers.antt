use Rattle.std.proofs.Common.{arith, ap, length}
use Rattle.pe_tables.proofs.export_lookup.Exports.new.Goals as goal

pub invariant_of-result : goal.invariant_of-result
invariant_of-result g c = record {
  ascending = λ i j d before within. absurd (omega (arith, ap length c.new.ensures.items));
  searchable = λ text. rw (c.new-2.ensures.held text, c.new-2.ensures.exports);
  held = rw c.new-2.ensures.exports (λ k d lt. absurd (omega arith));
}

pub returns-clause-ordinals : goal.returns-clause-ordinals
returns-clause-ordinals g c = c.new.ensures.items

pub returns-clause-names : goal.returns-clause-names
returns-clause-names g c = c.new-2.ensures.exports

pub returns-clause-name_ordinals : goal.returns-clause-name_ordinals
returns-clause-name_ordinals g c = c.new-2.ensures.ordinals
