-- The string continues the run, or is inserted among the others.
use Rattle.pe_tables.specs.TextMapView.{entries_in}
use Rattle.pe_tables.proofs.TextMap.{inserted}
use Rattle.pe_tables.proofs.TextRun.{gained-push, gained-others, run_lacks}
use Rattle.pe_tables.proofs.text_map.TextMap.insert.Goals as goal

pub returns-in_ok-push : goal.returns-in_ok-push
unfolding entries_in
returns-in_ok-push g c = λ other.
    let map = c.args.self.now in
    let new_text = run_lacks c.args.text.now map.run.items map.others.entries c.requires.new in
    rw c.in_ok-push.ensures.items (gained-push map.run.items map.others.entries c.args.text c.args.target other new_text)

pub returns-in_ok-insert : goal.returns-in_ok-insert
unfolding entries_in
returns-in_ok-insert g c = λ other.
    let map = c.args.self.now in
    let new_text = run_lacks c.args.text.now map.run.items map.others.entries c.requires.new in
    rw c.in_ok-insert.ensures.entries (gained-others map.run.items map.others.entries c.args.text c.args.target other _ new_text (inserted c.args.text c.args.target other map.others.entries))
