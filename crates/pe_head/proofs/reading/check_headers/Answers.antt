-- The header faults, part by part of the list.
use Rattle.std.proofs.Common.{◌∙◌, ap, lit≤}
use Rattle.std.proofs.lemmas.Result.{err_from_is_err_and}
use Rattle.pe_view.specs.View.{bytes_of}
use Rattle.pe_view.specs.FirstStanding.{first-step, first-stop}
use Rattle.pe_head.specs.HeaderFaults.{head_tests}
use Rattle.pe_head.proofs.reading.check_headers.Goals as goal

pub returns : goal.returns
returns c =
    let tests = head_tests c.args.image (bytes_of c.args.view) in (
      first-step tests 0 5 (lit≤ tt) c.in_ok-offset.ensures.exact.0
          ∙ first-step tests 5 8 (lit≤ tt) c.in_ok-magic.ensures.exact.0
          ∙ first-step tests 8 10 (lit≤ tt) c.in_ok-table_end.ensures.exact.0
          ∙ c.in_ok-check_sizes.ensures.0,
      ap (λ v. bytes_of v) (c.new.ensures ∙ c.new-fields.ensures),
    )

pub returns-in_err-offset : goal.returns-in_err-offset
returns-in_err-offset c =
    let tests = head_tests c.args.image (bytes_of c.args.view) in
    let p = err_from_is_err_and c.from_residual.result c.from_residual.ensures.1 in
    rw (p.1, p.2) (first-stop tests 0 5 _ (lit≤ tt) c.in_err-offset.ensures.exact)

pub returns-in_err-magic : goal.returns-in_err-magic
returns-in_err-magic c =
    let tests = head_tests c.args.image (bytes_of c.args.view) in
    let p = err_from_is_err_and c.from_residual-in_err-magic.result c.from_residual-in_err-magic.ensures.1 in
    rw (p.1, p.2)
    (first-step tests 0 5 (lit≤ tt) c.in_ok-offset.ensures.exact.0
    ∙ first-stop tests 5 8 _ (lit≤ tt) c.in_err-magic.ensures.exact)

pub returns-in_err-table_end : goal.returns-in_err-table_end
returns-in_err-table_end c =
    let tests = head_tests c.args.image (bytes_of c.args.view) in
    let p = err_from_is_err_and c.from_residual-in_err-table_end.result c.from_residual-in_err-table_end.ensures.1 in
    rw (p.1, p.2)
    (first-step tests 0 5 (lit≤ tt) c.in_ok-offset.ensures.exact.0
    ∙ first-step tests 5 8 (lit≤ tt) c.in_ok-magic.ensures.exact.0
    ∙ first-stop tests 8 10 _ (lit≤ tt) c.in_err-table_end.ensures.exact)

pub returns-in_err-check_sizes : goal.returns-in_err-check_sizes
returns-in_err-check_sizes c =
    let tests = head_tests c.args.image (bytes_of c.args.view) in
    let p = err_from_is_err_and c.from_residual-in_err-check_sizes.result c.from_residual-in_err-check_sizes.ensures.1 in
    rw (p.1, p.2)
    (first-step tests 0 5 (lit≤ tt) c.in_ok-offset.ensures.exact.0
    ∙ first-step tests 5 8 (lit≤ tt) c.in_ok-magic.ensures.exact.0
    ∙ first-step tests 8 10 (lit≤ tt) c.in_ok-table_end.ensures.exact.0
    ∙ c.in_err-check_sizes.ensures)
