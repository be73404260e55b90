use Rattle.pe_layout.specs.Layout.{image_of}
use Rattle.pe_text.proofs.Adding.{◌then◌}
use Rattle.pe_json.specs.ResourceRows.{leaf_row}
use Rattle.pe_json.proofs.Objects.{adds_none, no_rows, some_rows}
use Rattle.pe_json.proofs.resources.write_each_leaf.Goals as goal

pub returns : goal.returns
returns g c = rw (some_rows (leaf_row (image_of c.args.layout.now)) _ _ c.args.leaves.now c.in-Some.ensures.cases.0) at (c.write_leaf.ensures then c.write_next_leaves.ensures)

pub returns-in_default : goal.returns-in_default
returns-in_default g c = rw (← no_rows (leaf_row (image_of c.args.layout.now)) c.args.leaves.now c.in_default.ensures.cases) (adds_none c.requires)
