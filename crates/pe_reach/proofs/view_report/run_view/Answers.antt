use Rattle.std.proofs.Common.{◌∙◌, ◌++◌, ℕ, List, length, arith, ap, sym, append_assoc, inl, inr}
use Rattle.pe_reach.specs.Views.{LookAlike}
use Rattle.pe_reach.proofs.Sizes.{ran, ran_refused, ran-unread}
use Rattle.pe_reach.proofs.view_report.run_view.Goals as goal

pub returns-in-Some-clause-ran : goal.returns-in-Some-clause-ran
returns-in-Some-clause-ran g c =
    let first = c.in_ok-first.ensures in
    let given = g.R.Source.given c.args.reader.now in
    let bytes = c.in_ok-first.first.bytes.items in
    ran_refused g.T.ViewReport.is_text c.args.len given _ _ _ _ _ _ c.write_refused.result bytes c.in-Some.fault (first.1 ∙ ap (λ (xs : List ℕ). given ++ xs) (sym first.3.0)) c.in-Some.ensures
    (omega (arith, first.2, ap (λ (xs : List ℕ). length xs) first.3.0)) c.write_refused.ensures.puts c.write_refused.ensures.memory

pub returns-in_err-seen-clause-ran : goal.returns-in_err-seen-clause-ran
returns-in_err-seen-clause-ran g c =
    let first = c.in_ok-first.ensures in
    let given = g.R.Source.given c.args.reader.now in
    let bytes = c.in_ok-first.first.bytes.items in
    let rest = rw c.in_err-seen.was at c.read_seen.ensures in
    ran-unread g.T.ViewReport.is_text c.args.len given _ _ _ _ _ _ c.from_residual-in_err-seen.result c.from_residual-in_err-seen.ensures.1 (bytes ++ rest.0)
    (rest.1 ∙ ap (λ (gs : List ℕ). gs ++ rest.0) (first.1 ∙ ap (λ (xs : List ℕ). given ++ xs) (sym first.3.0)) ∙ append_assoc given bytes rest.0) rest.3 rest.2

pub returns-clause-ran : goal.returns-clause-ran
returns-clause-ran g c =
    let first = c.in_ok-first.ensures in
    let given = g.R.Source.given c.args.reader.now in
    let bytes = c.in_ok-first.first.bytes.items in
    let rest = c.in_ok-seen.ensures in
    ran LookAlike g.T.ViewReport.is_text c.requires.follows c.args.len given _ _ _ _ _ _ c.write_report.result c.deref-2.result.now (bytes ++ rest.0) (c.deref-2.ensures.value ∙ rest.3.0)
    (rest.1 ∙ ap (λ (gs : List ℕ). gs ++ rest.0) (first.1 ∙ ap (λ (xs : List ℕ). given ++ xs) (sym first.3.0)) ∙ append_assoc given bytes rest.0)
    (elim rest.3.1 [ inl whole ↦ inl whole.0 | inr show ↦ inr show.0 ]) rest.2 c.write_report.ensures.puts c.write_report.ensures.memory
