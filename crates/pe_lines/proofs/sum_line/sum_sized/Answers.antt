use Rattle.std.proofs.Common.{[], refl, sym, append-nil, arith}
use Rattle.pe_lines.specs.SumLine.{IsSumText}
use Rattle.pe_reach.proofs.Sizes.{ran_line, ran_whole}
use Rattle.pe_lines.proofs.sum_line.sum_sized.Goals as goal

pub returns-in-None-clause-ran : goal.returns-in-None-clause-ran
returns-in-None-clause-ran g c = ran_whole IsSumText c.args.len _ _ _ _ _ c.sum.result c.sum.ensures.ran

pub returns-in-Some-clause-ran : goal.returns-in-Some-clause-ran
returns-in-Some-clause-ran g c =
    ran_line IsSumText c.args.len _ _ _ _ _ _ _ c.write_refusal.result [] c.in-Some.fault (sym (append-nil _)) (λ file b. (c.in-Some.ensures.fault file b.size, refl)) (omega arith) c.write_refusal.ensures.puts c.write_refusal.ensures.memory
