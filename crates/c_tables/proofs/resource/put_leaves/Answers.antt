-- One more leaf.
use Rattle.std.proofs.Common.{◌∙◌, ◌≤◌, length, map, min, sym, arith, rules}
use Rattle.std.proofs.lemmas.List.{length-map}
use Rattle.pe_layout.specs.Layout.{image_of}
use Rattle.c_tables.specs.ResourceRows.{resource_row, resource_text}
use Rattle.c_tables.proofs.FilledRows.{filled_none, row_stored}
use Rattle.c_tables.proofs.Filled.{filled_most, got}
use Rattle.c_tables.proofs.resource.put_leaves.Goals as goal

pub loop-index-init : goal.loop-index-init
loop-index-init c = record {
  told = sym (filled_none (resource_row (image_of c.args.layout.now)) (map resource_text c.args.rows.now));
  len = search rules;
}

pub loop-index-preserved : goal.loop-index-preserved
loop-index-preserved c =
    let i = c.loop-index.invariant in
    let leaves = c.args.leaves.now in
    let index = c.loop-index.index in
    let under = c.loop-index-test.true in
    let here = got leaves index _ (omega (arith, under)) in
    record {
      told = row_stored resource_text (resource_row (image_of c.args.layout.now)) leaves _ c.loop-index.rows _ index _ c.of.result here i.told c.of.ensures cc;
      len = search rules;
    }

pub returns : goal.returns
returns c =
    let i = c.loop-index.invariant in
    let past = c.loop-index-test.false in
    let len = length-map c.args.rows.now resource_text in
    let most : min (length (map resource_text c.args.rows.now)) (length c.args.leaves.now) ≤ c.loop-index.index = rw len (search rules) in
    i.told ∙ filled_most (resource_row (image_of c.args.layout.now)) c.args.leaves.now (map resource_text c.args.rows.now) c.loop-index.index most
