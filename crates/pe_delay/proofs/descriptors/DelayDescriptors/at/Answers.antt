use Rattle.std.proofs.Common.{length, ap, arith}
use Rattle.pe_layout.specs.Layout.{size_small}
use Rattle.pe_delay.proofs.descriptors.DelayDescriptors.at.Goals as goal

pub invariant_of-result : goal.invariant_of-result
invariant_of-result c =
    let size = ap length c.new.ensures in
    let inside = c.raw_bytes.ensures.inside in
    let small = size_small c.args.layout.now in
    record {
      inside = λ some. omega (arith, some, size, inside, small);
      within = omega arith;
    }
