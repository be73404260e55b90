use Rattle.std.proofs.Common.{◌≡◌, ℕ, ◌<◌, List, drop, get_or}
use Rattle.pe_tables.specs.NameIndex.{export_view}
use Rattle.pe_tables.specs.declared.key.Target as code_target
use Rattle.pe_records_c.specs.ExportRows.{export_text, export_by_name}
use Rattle.pe_records_c.proofs.export.fill_names.Given as goal
use denote.Bor.{Bor}

abbrev pub invariant-loop-index : goal.invariant-loop-index
invariant-loop-index l = record {
  told : (item : (Bor (List ℕ) × code_target.Target) × ℕ) (row : _) (k : ℕ) → k < l.index → export_text (get_or l.rows k row) ≡ export_by_name (export_view (get_or l.names k item.0), get_or l.ordinals k item.1);
  others : drop l.index l.rows ≡ drop l.index l.initial.rows;
}
