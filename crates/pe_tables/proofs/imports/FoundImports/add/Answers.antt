-- All slots are equally long.
use Rattle.std.proofs.Common.{◌∙◌, not}
use Rattle.std.specs.Prelude.{◌==◌}
use Rattle.std.proofs.lemmas.List.Folds.{list_any_none}
use Rattle.pe_ranges.specs.RangesView.{ranges_in}
use Rattle.pe_tables.specs.Imports.{Import}
use Rattle.pe_tables.specs.ImportFaults.{range_of}
use Rattle.pe_tables.specs.ImportReading.{read_of}
use Rattle.pe_tables.proofs.Beside.{all_equal, equal_self, list_any-map}
use Rattle.pe_tables.proofs.imports.FoundImports.add.Goals as goal

pub add-requires : goal.add-requires
add-requires g c =
    let width = c.args.width in
    let found = c.args.self.now in
    all_equal _ width (ranges_in found.slots)
    (c.requires (λ range. not (range.1 == width))
    ∙ list_any-map (λ range. not (range.1 == width)) (range_of width) (read_of found)
    ∙ list_any_none (λ (import : Import). not (width == width)) (read_of found) (λ k d lt. equal_self width))
