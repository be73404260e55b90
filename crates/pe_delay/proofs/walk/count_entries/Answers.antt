-- One entry after the other.
use Rattle.std.proofs.Common.{◌+◌, ℕ, List, [], length, ap, arith}
use Rattle.std.proofs.lemmas.List.{length-map}
use Rattle.pe_layout.specs.Layout.{image_of, size_small}
use Rattle.pe_tables.specs.Imports.{Import}
use Rattle.pe_delay.specs.Entries.{entries_from, import_by}
use Rattle.pe_delay.proofs.walk.count_entries.Goals as goal

pub loop-import-preserved : goal.loop-import-preserved
loop-import-preserved g c =
    let i = image_of c.args.layout.now in
    let t = c.args.tables.now in
    let most : ℕ = c.most_after-most.result in
    let k : ℕ = c.loop-import.count in
    let inv = c.loop-import.invariant in
    let next = c.in-Some.ensures.next in
    let one = ap (λ (xs : List Import). length xs) next.2 in
    let here = length-map (entries_from i t most k) (import_by i t []) in
    let rest = length-map (entries_from i t most (k + 1)) (import_by i t []) in
    let under = next.0 in
    let inside = next.1 in
    let small = size_small c.args.layout.now in
    let all = inv.0 in (
      omega (arith, one, here, rest, all),
      omega (arith, under),
      omega (arith, inside, small),
      c.import_at.ensures.known,
    )
