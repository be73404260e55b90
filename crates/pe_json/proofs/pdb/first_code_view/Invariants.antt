use Rattle.std.proofs.Common.{◌≡◌, drop}
use Rattle.std.specs.Prelude.{find}
use Rattle.pe_layout.specs.Layout.{image_of}
use Rattle.pe_json.specs.DebugRows.{debug_entries}
use Rattle.pe_json.specs.PdbRows.{is_code_view}
use Rattle.pe_json.proofs.pdb.first_code_view.Given as goal

abbrev pub invariant-loop-index : goal.invariant-loop-index
invariant-loop-index l = record {
  left : find is_code_view (drop l.index (debug_entries (image_of l.layout))) ≡ find is_code_view (debug_entries (image_of l.layout));
}
