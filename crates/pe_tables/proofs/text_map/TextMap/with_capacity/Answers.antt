-- Neither a run nor others.
use Rattle.pe_tables.specs.TextMapView.{entries_in}
use Rattle.pe_tables.proofs.text_map.TextMap.with_capacity.Goals as goal

pub returns : goal.returns
unfolding entries_in
returns g c = rw (c.in_ok-with_capacity.ensures.items, c.new.ensures.empty) (search)
