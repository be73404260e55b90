-- The ranges that are there gain the field's bytes.
use Rattle.std.proofs.Common.{◌≡◌, ℕ, Option, Some, Ok, Err, Result, refl}
use Rattle.std.specs.Prelude.{OnOk}
use Rattle.pe_ranges.specs.Ranges.{Gains}
use Rattle.pe_ranges.specs.RangesView.{ranges_in}
use Rattle.pe_ranges.specs.declared.ranges.Ranges.{Ranges}
use Rattle.pe_tables.specs.FixupReading.{GainsAny}
use Rattle.pe_tables.proofs.found_fixups.add_field.Goals as goal

gained : {A T E : Type 0} (result : Result T E) (old : Option (Ranges A)) (before after : Ranges A) (range : ℕ × ℕ) → old ≡ Some before
    → OnOk result (Gains (ranges_in before) (ranges_in after) range) → OnOk result (GainsAny old (Some after) range)
gained (Ok done) old before after range is gains = rw is (after, refl, gains)
gained (Err refused) old before after range is gains = tt

pub returns-in-Some-clause-gains : goal.returns-in-Some-clause-gains
returns-in-Some-clause-gains g c = gained c.add.result c.args.fields.now c.in-Some.fields c.add.new.self (c.args.field, c.args.width) c.in-Some.is c.add.ensures
