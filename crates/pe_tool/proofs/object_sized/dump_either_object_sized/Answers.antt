use Rattle.std.proofs.Common.{[], refl, sym, append-nil, arith}
use Rattle.coff_lines.specs.EitherReport.{IsEitherObjectText}
use Rattle.pe_reach.proofs.Sizes.{ran_line, ran_whole}
use Rattle.pe_tool.proofs.object_sized.dump_either_object_sized.Goals as goal

pub returns-in-None-clause-ran : goal.returns-in-None-clause-ran
returns-in-None-clause-ran g c = ran_whole IsEitherObjectText c.args.len _ _ _ _ _ c.dump_either_object.result c.dump_either_object.ensures.ran

pub returns-in-Some-clause-ran : goal.returns-in-Some-clause-ran
returns-in-Some-clause-ran g c =
    ran_line IsEitherObjectText c.args.len _ _ _ _ _ _ _ c.write_refusal.result [] c.in-Some.fault (sym (append-nil _)) (λ file b. (c.in-Some.ensures.either file b.size, refl)) (omega arith) c.write_refusal.ensures.puts c.write_refusal.ensures.memory
