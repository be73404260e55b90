use Rattle.std.proofs.Common.{refl, sym, append-nil, inl, inr}
use Rattle.pe_tool.proofs.RebaseRuns.{size_refused}
use Rattle.pe_tool.proofs.rebasing.write_rebased_sized.Goals as goal

pub returns-in-None-clause-ran : goal.returns-in-None-clause-ran
returns-in-None-clause-ran g c = inl c.write_rebased.ensures.ran

pub returns-in-Some-clause-ran : goal.returns-in-Some-clause-ran
returns-in-Some-clause-ran g c =
    inr (record {
      fault = c.in-Some.fault;
      refused = λ file size. size_refused file c.args.base c.in-Some.fault (c.in-Some.ensures.fault file size);
      reads = refl;
      unwritten = (sym (append-nil _), refl);
      line = c.tell.ensures;
    })
