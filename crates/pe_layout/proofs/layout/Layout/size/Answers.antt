use Rattle.std.proofs.Common.{◌≡◌, arith}
use Rattle.pe_layout.specs.Layout.{headers_of, image_of}
use Rattle.pe_layout.proofs.layout.Layout.size.Goals as goal

pub returns-clause-value : goal.returns-clause-value
unfolding image_of
returns-clause-value c = c.args.self.now.size_is

pub returns-clause-small : goal.returns-clause-small
unfolding image_of
returns-clause-small c =
    let l = c.args.self.now in
    let is : l.size ≡ (headers_of l).size_of_image = l.size_is in
    let small = l.small in
    omega (arith, is, small)
