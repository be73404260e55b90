use Rattle.std.proofs.Common.{◌≡◌, ◌++◌, drop, map, take}
use Rattle.std.specs.List.{flat_map, filter_map}
use Rattle.pe_layout.specs.Layout.{file_of, image_of}
use Rattle.pe_ranges.specs.Ranges.{SameRanges}
use Rattle.pe_ranges.specs.RangesView.{ranges_in}
use Rattle.pe_tables.specs.ImportView.{import_view}
use Rattle.pe_set.specs.Bindings.{binding_of}
use Rattle.pe_set.specs.DelayedImports.{slot_ranges, own_slot_at, staying}
use Rattle.pe_set.specs.EndsView.{AreEnds}
use Rattle.pe_set.specs.Numbered.{numbered}
use Rattle.pe_set.specs.RememberedView.{AreRemembered}
use Rattle.pe_set.specs.SetErrors.{import_errors, first_error}
use Rattle.pe_set.specs.SetView.{modules_view}
use Rattle.pe_set.specs.TrailsView.{AreTrailsOf}
use Rattle.pe_set.specs.declared.entry.Policy.TheVariants.{Known}
use Rattle.pe_set.proofs.delayed.bind_delayed.Given as goal

abbrev pub invariant-loop-index : goal.invariant-loop-index
invariant-loop-index g l = record {
  known : AreEnds (modules_view l.modules) l.ends;
  remembered : AreRemembered (modules_view l.modules) (image_of l.layout) l.remembered;
  trails : AreTrailsOf l.modules (file_of l.layout) l.trails;
  slots : SameRanges (ranges_in l.slots) (slot_ranges l.width (map import_view l.imports ++ take l.index (map import_view l.import-items)));
  rest : first_error (numbered (λ k x. flat_map (import_errors Known (modules_view l.modules) l.number) (own_slot_at (image_of l.layout) (map import_view l.imports) k x)) l.index (map import_view (drop l.index l.import-items)))
      ≡ first_error (numbered (λ k x. flat_map (import_errors Known (modules_view l.modules) l.number) (own_slot_at (image_of l.layout) (map import_view l.imports) k x)) 0 (map import_view l.import-items));
  bound : l.bindings.items ++ numbered (λ k x. filter_map (binding_of (modules_view l.modules) l.number) (own_slot_at (image_of l.layout) (map import_view l.imports) k x)) l.index (map import_view (drop l.index l.import-items))
      ≡ l.fn.bindings.items ++ numbered (λ k x. filter_map (binding_of (modules_view l.modules) l.number) (own_slot_at (image_of l.layout) (map import_view l.imports) k x)) 0 (map import_view l.import-items);
  kept : map import_view l.delayed.items ++ numbered (λ k x. staying (modules_view l.modules) (own_slot_at (image_of l.layout) (map import_view l.imports) k x)) l.index (map import_view (drop l.index l.import-items))
      ≡ numbered (λ k x. staying (modules_view l.modules) (own_slot_at (image_of l.layout) (map import_view l.imports) k x)) 0 (map import_view l.import-items);
}
