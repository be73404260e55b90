use Rattle.std.proofs.Common.{◌∙◌}
use Rattle.std.proofs.lemmas.Bool.{ne_eqb}
use Rattle.pe_layout.specs.Layout.{image_of}
use Rattle.pe_json.specs.DebugRows.{debug_entries}
use Rattle.pe_json.specs.PdbRows.{is_code_view}
use Rattle.pe_json.proofs.FirstItem.{found-here, not-here}
use Rattle.pe_json.proofs.pdb.first_code_view.Goals as goal

pub returns-then-entry-eq-CODE_VIEW : goal.returns-then-entry-eq-CODE_VIEW
returns-then-entry-eq-CODE_VIEW c =
    found-here is_code_view (debug_entries (image_of c.args.layout.now)) c.loop-index.index c.unwrap-entry.result (rw (c.unwrap-entry.ensures, c.of-entries.ensures.bytes) at c.get.ensures) (rw c.if-entry-eq-CODE_VIEW.true)
    ∙ c.loop-index.invariant.left

pub loop-index-preserved : goal.loop-index-preserved
loop-index-preserved c = record {
  left = not-here is_code_view (debug_entries (image_of c.args.layout.now)) c.loop-index.index c.unwrap-entry.result (rw (c.unwrap-entry.ensures, c.of-entries.ensures.bytes) at c.get.ensures) (ne_eqb _ _ c.if-entry-eq-CODE_VIEW.false)
      ∙ c.loop-index.invariant.left;
}
