use Rattle.std.proofs.Common.{◌∙◌, ◌+◌, ◌∷◌, [], ℕ, List, map, take, ap, subst, arith, get_or}
use Rattle.std.specs.List.{list_any}
use Rattle.std.proofs.lemmas.List.{map-append, take_all, take_more}
use Rattle.std.proofs.lemmas.Result.{err_from_is_err_and}
use Rattle.pe_ranges.specs.Ranges.{SameRanges}
use Rattle.pe_ranges.specs.RangesView.{ranges_in}
use Rattle.pe_tables.specs.ImportView.{import_view}
use Rattle.pe_tables.specs.declared.import.Import.{Import}
use Rattle.pe_set.specs.DelayedImports.{slot_ranges}
use Rattle.pe_set.proofs.Defaults.{no_import}
use Rattle.pe_set.proofs.DelayedSteps.{slots_next}
use Rattle.pe_set.proofs.EqualSlots.{all_equal, same_equal}
use Rattle.pe_set.proofs.delayed.slots_of.Goals as goal

pub loop-import-init : goal.loop-import-init
loop-import-init g c = λ test. ap (λ (rs : List (ℕ × ℕ)). list_any test rs) c.new-slots.ensures

pub add-requires : goal.add-requires
add-requires g c =
    let before = map import_view (take c.loop-import.import-index c.args.imports.now) in
    all_equal _ c.args.width (ranges_in c.loop-import.slots) (same_equal c.args.width (ranges_in c.loop-import.slots) before c.loop-import.invariant)

pub loop-import-preserved : goal.loop-import-preserved
loop-import-preserved g c =
    let xs = c.args.imports.now in
    let i : ℕ = c.loop-import.import-index in
    let x : Import = get_or xs i no_import in
    let before = map import_view (take i xs) in
    let next = ap (map import_view) (take_more xs i no_import c.loop-import-test.true) ∙ map-append import_view (take i xs) (x ∷ []) in
    slots_next c.args.width [] before (map import_view (take (i + 1) xs)) (import_view x) (ranges_in c.loop-import.slots) (ranges_in c.add.new.self) next c.loop-import.invariant c.in_ok-add.ensures

pub returns : goal.returns
returns g c =
    let xs = c.args.imports.now in
    subst (λ (ys : List Import). SameRanges (ranges_in c.loop-import.slots) (slot_ranges c.args.width (map import_view ys))) (take_all c.loop-import.import-index xs (omega arith)) c.loop-import.invariant

pub returns-in_err-add : goal.returns-in_err-add
returns-in_err-add g c = let p = err_from_is_err_and c.from_residual.result c.from_residual.ensures.1 in rw p.1 tt
