-- The string is in the run, or among the others, or in neither.
use Rattle.std.proofs.Common.{◌∙◌, sym, ap}
use Rattle.pe_tables.specs.TextMap.{found}
use Rattle.pe_tables.specs.TextMapView.{entries_in}
use Rattle.pe_tables.proofs.TextMap.{by_bytes}
use Rattle.pe_tables.proofs.TextRun.{found-before, found-behind}
use Rattle.pe_tables.proofs.text_map.TextMap.get.Goals as goal

pub returns-in-Some : goal.returns-in-Some
unfolding entries_in
returns-in-Some g c =
    let map = c.args.self.now in
    sym (found-before c.args.text.now map.run.items map.others.entries _ (ap (found c.args.text.now) (sym c.as_slice.ensures.value) ∙ sym c.in-Some.ensures))

pub returns-in-None : goal.returns-in-None
unfolding entries_in
returns-in-None g c =
    let map = c.args.self.now in
    c.copied.ensures ∙ c.get.ensures.value ∙ by_bytes c.args.text.now map.others.entries
    ∙ sym (found-behind c.args.text.now map.run.items map.others.entries (ap (found c.args.text.now) (sym c.as_slice.ensures.value) ∙ sym c.in-None.ensures))
