use Rattle.std.proofs.Common.{length, ap, arith}
use Rattle.pe_layout.specs.Layout.{image_of, size_small}
use Rattle.pe_records.proofs.Rows.{held_small}
use Rattle.pe_records.proofs.tls_callbacks.TlsCallbacks.at.Goals as goal

pub count_entries-requires : goal.count_entries-requires
count_entries-requires c =
    let size = ap length c.new-bytes.ensures in
    let inside = c.raw_bytes.ensures.inside in
    let small = held_small (length c.raw_bytes.result.now) c.args.rva (image_of c.args.layout.now).size inside (size_small c.args.layout.now) in
    omega (arith, size, small)

pub invariant_of-result : goal.invariant_of-result
invariant_of-result c =
    let size = ap length c.new-bytes.ensures in
    let inside = c.raw_bytes.ensures.inside in
    let small = size_small c.args.layout.now in
    record {
      counted = c.count_entries.ensures.count;
      whole = c.count_entries.ensures.whole;
      inside = λ some. omega (arith, some, size, inside, small);
    }
