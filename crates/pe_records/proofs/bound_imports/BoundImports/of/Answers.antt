use Rattle.std.proofs.Common.{◌≡◌, ◌∙◌, ◌≤◌, length, ap, arith}
use Rattle.std.proofs.lemmas.List.{length-take-le}
use Rattle.pe_view.specs.View.{size_of}
use Rattle.pe_layout.specs.Layout.{size_small}
use Rattle.pe_records.proofs.bound_imports.BoundImports.of.Goals as goal

pub count_entries-requires : goal.count_entries-requires
count_entries-requires c =
    let held = c.raw_bytes-held.result.now in
    let le : c.min-len.result ≤ length held = omega (arith, c.min-len.ensures) in
    let size : size_of c.new-table.result ≡ c.min-len.result = ap (λ (xs : _). length xs) c.new-table.ensures ∙ length-take-le c.min-len.result held le in
    omega (arith, size, c.min-len.ensures)

pub invariant_of-result-2 : goal.invariant_of-result-2
invariant_of-result-2 c =
    let held = c.raw_bytes-held.result.now in
    let le : c.min-len.result ≤ length held = omega (arith, c.min-len.ensures) in
    let size : size_of c.new-table.result ≡ c.min-len.result = ap (λ (xs : _). length xs) c.new-table.ensures ∙ length-take-le c.min-len.result held le in
    let small = size_small c.args.layout.now in
    let inside = c.raw_bytes-held.ensures.inside in
    record {
      counted = c.count_entries.ensures.count;
      whole = c.count_entries.ensures.whole;
      inside = λ some. omega (arith, some, size, le, small, inside);
    }
