use Rattle.std.proofs.Common.{ℕ, take}
use Rattle.std.specs.Prelude.{map}
use Rattle.pe_layout.specs.Layout.{file_of, image_of}
use Rattle.pe_tables.specs.Exports.{entry, target_of}
use Rattle.pe_tables.specs.ExportsView.{name_view}
use Rattle.pe_tables.specs.LongTexts.{AreLongTextsOf}
use Rattle.pe_tables.specs.NameIndex.{AreHeld, IsIndexOf}
use Rattle.pe_tables.proofs.exports.read_entries.Given as goal

abbrev pub invariant-loop-place : goal.invariant-loop-place
invariant-loop-place g l = record {
  known : AreLongTextsOf (file_of l.layout) l.index.long;
  names : IsIndexOf (λ (k : ℕ). target_of (image_of l.layout) l.fn.directory (entry (image_of l.layout) l.table k)) l.table.ordinal_base (map name_view (take l.place l.names)) l.index;
  held : AreHeld l.index;
}
