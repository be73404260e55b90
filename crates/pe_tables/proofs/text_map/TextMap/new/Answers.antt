-- Neither a run nor others.
use Rattle.pe_tables.specs.TextMapView.{entries_in}
use Rattle.pe_tables.proofs.text_map.TextMap.new.Goals as goal

pub returns : goal.returns
unfolding entries_in
returns g c = rw (c.new.ensures.items, c.new-2.ensures.empty) (search)
