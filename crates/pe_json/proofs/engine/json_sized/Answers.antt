use Rattle.std.proofs.Common.{◌≡◌, List, ◌++◌, ◌∙◌, ap, sym, subst, append_assoc, length, ℕ, false, refl, None, Some}
use Rattle.std.specs.Prelude.{Option, is_some, not}
use Rattle.pe_reach.specs.ViewBytes.{bytes_read}
use Rattle.pe_text.specs.Engine.{IsWhole}
use Rattle.pe_json.specs.declared.beyond.Beyond.{Beyond}
use Rattle.pe_json.proofs.Sized.{ran, ran_refused, ran_rest, seen_view, refused_view, unread}
use Rattle.pe_json.proofs.engine.json_sized.Goals as goal

pub returns-in-Some-clause-ran : goal.returns-in-Some-clause-ran
returns-in-Some-clause-ran g c =
    let read = c.in_ok-seen.ensures in
    let seen = refused_view _ _ _ _ _ _ read.2.1 (sym c.refused.ensures ∙ c.in-Some.is) in
    ran_refused c.args.beyond c.args.name.now c.args.len _ _ _ _ _ _ _ _ c.print_refused.result _ read.0 _ c.in-Some.fault (c.file.ensures.seen ∙ read.2.0) c.file.ensures.told read.1 seen read.3 c.print_refused.ensures.puts c.print_refused.ensures.memory

none_by_test : (beyond : Option Beyond) → is_some beyond ≡ false → beyond ≡ None
none_by_test None is = refl
none_by_test (Some beyond) is = absurd cc

pub returns-then-is_none-clause-ran : goal.returns-then-is_none-clause-ran
returns-then-is_none-clause-ran g c =
    let read = c.in_ok-seen.ensures in
    let none = none_by_test c.args.beyond (c.is_none.ensures ∙ ap not c.if-is_none.true) in
    let seen = seen_view _ _ _ _ _ read.2.1 (sym c.refused.ensures ∙ c.in_default.is) in
    rw none (ran c.faults_agree.ensures c.args.name.now c.args.len _ _ _ _ _ _ _ _ c.print_line.result _ read.0 _ (c.file-then-is_none.ensures.seen ∙ read.2.0) c.file-then-is_none.ensures.told read.1 seen read.3 c.print_line.ensures.puts c.print_line.ensures.memory)

pub returns-clause-ran : goal.returns-clause-ran
returns-clause-ran g c =
    let read = c.in_ok-seen.ensures in
    let rest = c.in_ok-file.ensures in
    let given = g.R.Source.given c.args.reader.now in
    let first = bytes_read c.in_ok-seen.seen in
    let items = c.whole.ensures.seen ∙ c.deref.ensures.value in
    let reads = rest.1 ∙ ap (λ (xs : List ℕ). xs ++ rest.0) read.1 ∙ append_assoc given read.0 rest.0 ∙ ap (λ (xs : List ℕ). given ++ (xs ++ rest.0)) (sym read.2.0) in
    ran_rest c.args.beyond c.args.name.now c.args.len _ _ _ _ _ _ _ _ c.print_line-2.result _ (first ++ rest.0) (items ∙ rest.2.0) (c.whole.ensures.told ∙ ap (λ (xs : List ℕ). length xs) (sym c.whole.ensures.seen)) reads
    (subst (λ (xs : List ℕ). IsWhole (g.R.Source.ended c.read_rest.new.reader) xs) (sym items) rest.2.1) rest.3 c.print_line-2.ensures.puts c.print_line-2.ensures.memory

pub returns-in_err-file-clause-ran : goal.returns-in_err-file-clause-ran
returns-in_err-file-clause-ran g c =
    let read = c.in_ok-seen.ensures in
    let rest = rw c.in_err-file.was at c.read_rest.ensures in
    let given = g.R.Source.given c.args.reader.now in
    let first = bytes_read c.in_ok-seen.seen in
    let reads = rest.1 ∙ ap (λ (xs : List ℕ). xs ++ rest.0) read.1 ∙ append_assoc given read.0 rest.0 ∙ ap (λ (xs : List ℕ). given ++ (xs ++ rest.0)) (sym read.2.0) in
    unread c.args.beyond c.args.name.now c.args.len _ _ _ _ _ _ _ c.from_residual-in_err-file.result c.from_residual-in_err-file.ensures.1 (first ++ rest.0, reads, rest.2, rest.3)

pub returns-in_err-seen-clause-ran : goal.returns-in_err-seen-clause-ran
returns-in_err-seen-clause-ran g c =
    unread c.args.beyond c.args.name.now c.args.len _ _ _ _ _ _ _ c.from_residual.result c.from_residual.ensures.1 (rw c.in_err-seen.was at c.read_view.ensures)
