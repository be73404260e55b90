use Rattle.std.proofs.Common.{◌∙◌, arith}
use Rattle.pe_head.proofs.checked.CheckedHeaders.section.Goals as goal

pub returns : goal.returns
returns c =
    let count = c.args.self.now.count in
    c.of_row.ensures ∙ c.args.self.now.table c.args.index _ (omega (arith, count, c.requires))
