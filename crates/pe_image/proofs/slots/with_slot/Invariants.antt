use Rattle.std.proofs.Common.{◌≡◌, drop, map}
use Rattle.std.specs.Prelude.{◌==◌}
use Rattle.std.specs.List.{find}
use Rattle.pe_tables.specs.ImportView.{import_view}
use Rattle.pe_image.proofs.slots.with_slot.Given as goal

abbrev pub invariant-loop-import : goal.invariant-loop-import
invariant-loop-import l = find (λ m. m.slot == l.slot) (map import_view (drop l.import-index l.imports)) ≡ find (λ m. m.slot == l.slot) (map import_view l.imports)
