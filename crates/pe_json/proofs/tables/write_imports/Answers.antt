use Rattle.std.proofs.Common.{◌∙◌, map}
use Rattle.std.proofs.lemmas.List.{length-map}
use Rattle.pe_tables.specs.ImportView.{import_view}
use Rattle.pe_text.proofs.Adding.{◌then◌}
use Rattle.pe_json.specs.JsonText.{list}
use Rattle.pe_json.specs.TableRows.{import_row}
use Rattle.pe_json.proofs.Objects.{some_rows, no_rows, map_views}
use Rattle.pe_json.proofs.tables.write_imports.Goals.{in-Some, in_default}
use Rattle.pe_json.proofs.tables.write_imports.Goals as goal

pub returns : goal.returns
unfolding list
returns g c = elim c.match-split_first.branch [
  | in-Some w ↦
      let close = rw w.text-is at c.text-2.ensures in
      let rows = rw (some_rows (λ i. import_row (import_view i)) _ _ c.args.imports.now w.in-Some.ensures.cases.0, map_views import_row import_view c.args.imports.now) at (w.write_import.ensures then w.write_next_imports.ensures) in
      c.text.ensures then rows then close
  | in_default w ↦
      let close = rw w.text-is at c.text-2.ensures in
      rw (← no_rows import_row (map import_view c.args.imports.now) (length-map _ _ ∙ w.in_default.ensures.cases)) (c.text.ensures then close)
]
