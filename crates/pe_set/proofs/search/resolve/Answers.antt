-- Each forwarder of the path leads to the end.
use Rattle.std.proofs.Common.{◌∙◌, ◌<◌, ℕ, suc, List, length, ap, get_or, arith}
use Rattle.std.specs.Prelude.{option_map}
use Rattle.std.proofs.lemmas.Option.{slice_get-map, slice_get-get_or}
use Rattle.pe_tables.specs.Key.{Key, key_view}
use Rattle.pe_set.specs.Search.{pairs_of}
use Rattle.pe_set.specs.SetView.{modules_view}
use Rattle.pe_set.specs.StandView.{stand_view}
use Rattle.pe_set.proofs.Cycles.{ended_is}
use Rattle.pe_set.proofs.Defaults.{no_standing}
use Rattle.pe_set.proofs.search.resolve.Goals as goal

pub loop-at-preserved : goal.loop-at-preserved
loop-at-preserved g c =
    let s = modules_view c.args.modules.now in
    let name : List ℕ = c.args.import.now.«module».now in
    let key : Key = key_view c.args.import.now.key in
    let items = c.search.new.path.stands.items in
    let i : ℕ = c.loop-at.at-index in
    let same = ap (λ xs. length xs) c.deref-at-items.ensures.value in
    let lt = c.loop-at-test.true in
    let inside : i < length items = omega (arith, same, lt) in
    let got = slice_get-map stand_view items i ∙ ap (option_map stand_view) (slice_get-get_or items i no_standing inside) in
    let is = ended_is s name key c.in_ok-end.end c.in_ok-end.ensures.exact c.in_default.not-Endless in
    let led = c.in_ok-end.ensures.leads (suc (pairs_of s)) is i (stand_view (get_or items i no_standing)) got in
    let at = ap (λ xs. stand_view (get_or xs i no_standing)) c.deref-at-items.ensures.value in
    c.in_ok-keep.ensures s led.0 c.loop-at.invariant (at ∙ led.1) led.2
