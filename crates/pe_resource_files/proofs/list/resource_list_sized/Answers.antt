use Rattle.std.proofs.Common.{[], length, refl, sym, append-nil, arith}
use Rattle.pe_view.specs.FirstStanding.{first-in}
use Rattle.pe_head.specs.Head.{head_of}
use Rattle.pe_head.specs.HeaderFaults.{head_tests}
use Rattle.pe_layout.specs.SectionFaults.{placing_tests}
use Rattle.pe_resource_files.specs.Listed.{IsListed}
use Rattle.pe_reach.proofs.Sizes.{ran_line, ran_whole}
use Rattle.pe_resource_files.proofs.list.resource_list_sized.Goals as goal

pub returns-in-None-clause-ran : goal.returns-in-None-clause-ran
returns-in-None-clause-ran g c = ran_whole IsListed c.args.len _ _ _ _ _ c.resource_list.result c.resource_list.ensures.ran

pub returns-in-Some-clause-ran : goal.returns-in-Some-clause-ran
returns-in-Some-clause-ran g c =
    ran_line IsListed c.args.len _ _ _ _ _ _ _ c.write_refusal.result [] c.in-Some.fault (sym (append-nil _)) (λ file b. (first-in (head_tests 0 file) (placing_tests 0 (head_of file) (length file)) c.in-Some.fault (c.in-Some.ensures.fault file b.size), refl)) (omega arith) c.write_refusal.ensures.puts c.write_refusal.ensures.memory
