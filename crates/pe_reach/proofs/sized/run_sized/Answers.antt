use Rattle.std.proofs.Common.{◌∙◌, ◌++◌, ℕ, List, [], arith, sym, ap, append_assoc, append-nil}
use Rattle.pe_reach.specs.Reach.{SameAnswers}
use Rattle.pe_reach.proofs.Sizes.{ran, ran_early, ran-unread}
use Rattle.pe_reach.proofs.sized.run_sized.Goals as goal

pub returns-in-Some-clause-ran : goal.returns-in-Some-clause-ran
returns-in-Some-clause-ran g c =
    ran_early g.T.Report.is_text c.requires.refuses c.args.len _ _ _ _ _ _ _ c.write_refusal.result [] c.in-Some.fault (sym (append-nil _)) c.in-Some.ensures.refuses (omega arith) c.write_refusal.ensures.puts c.write_refusal.ensures.memory

pub returns-in_err-file-clause-ran : goal.returns-in_err-file-clause-ran
returns-in_err-file-clause-ran g c =
    let first = c.in_ok-first.ensures in
    let given = g.R.Source.given c.args.reader.now in
    let bytes = c.in_ok-first.first.bytes.items in
    let rest = rw c.in_err-file.was at c.read_rest.ensures in
    ran-unread g.T.Report.is_text c.args.len given _ _ _ _ _ _ c.from_residual-in_err-file.result c.from_residual-in_err-file.ensures.1 (bytes ++ rest.0)
    (rest.1 ∙ ap (λ (gs : List ℕ). gs ++ rest.0) (first.1 ∙ ap (λ (xs : List ℕ). given ++ xs) (sym first.3.0)) ∙ append_assoc given bytes rest.0) rest.3 rest.2

pub returns-clause-ran : goal.returns-clause-ran
returns-clause-ran g c =
    let first = c.in_ok-first.ensures in
    let given = g.R.Source.given c.args.reader.now in
    let bytes = c.in_ok-first.first.bytes.items in
    let rest = c.in_ok-file.ensures in
    ran SameAnswers g.T.Report.is_text c.requires.follows c.args.len given _ _ _ _ _ _ c.write_report.result c.deref-2.result.now (bytes ++ rest.0) (c.deref-2.ensures.value ∙ rest.3.0)
    (rest.1 ∙ ap (λ (gs : List ℕ). gs ++ rest.0) (first.1 ∙ ap (λ (xs : List ℕ). given ++ xs) (sym first.3.0)) ∙ append_assoc given bytes rest.0)
    rest.3.1 rest.2 c.write_report.ensures.puts c.write_report.ensures.memory
