-- All slots are equally long.
use Rattle.std.proofs.Common.{◌∙◌, not, take, List, ap, sym, arith}
use Rattle.std.specs.Prelude.{◌==◌}
use Rattle.std.specs.List.{list_any}
use Rattle.std.proofs.lemmas.List.{take_all}
use Rattle.std.proofs.lemmas.List.Folds.{list_any_none}
use Rattle.std.proofs.lemmas.Result.{err_from_is_err_and}
use Rattle.pe_ranges.specs.RangesView.{ranges_in}
use Rattle.pe_tables.specs.Fixups.{slot_range}
use Rattle.pe_tables.specs.Import.{slots_of}
use Rattle.pe_tables.specs.declared.import.Import.{Import}
use Rattle.pe_tables.proofs.Beside.{all_equal, equal_self, list_any-map}
use Rattle.pe_tables.proofs.fixups.slot_ranges.Goals as goal

pub add-requires : goal.add-requires
add-requires g c =
    let imports : List Import = take c.loop-import.import-index c.args.imports.now in
    all_equal _ c.args.width (ranges_in c.loop-import.ranges)
    (c.loop-import.invariant (λ range. not (range.1 == c.args.width))
    ∙ list_any_none (λ (i : Import). not (c.args.width == c.args.width)) imports (λ k d lt. equal_self c.args.width))

pub returns : goal.returns
returns g c = λ test.
    c.loop-import.invariant test
    ∙ ap (list_any (λ (i : Import). test (slot_range c.args.width i.slot))) (take_all c.loop-import.import-index c.args.imports.now (omega arith))
    ∙ sym (list_any-map test (slot_range c.args.width) (slots_of c.args.imports.now) ∙ list_any-map (λ slot. test (slot_range c.args.width slot)) (λ (i : Import). i.slot) c.args.imports.now)

pub returns-in_err-add : goal.returns-in_err-add
returns-in_err-add g c = let p = err_from_is_err_and c.from_residual.result c.from_residual.ensures.1 in rw p.1 tt
