use Rattle.std.proofs.Common.{◌∙◌, ◌++◌, ℕ, List, refl, sym, ap, subst, arith}
use Rattle.pe_reach.specs.Views.{RefuseView}
use Rattle.pe_reach.proofs.Looks.{reads_on, viewed}
use Rattle.pe_reach.proofs.view_reading.read_view.Goals as goal

pub returns-in-Some : goal.returns-in-Some
returns-in-Some g c =
    let first = c.in_ok-first.ensures in (
      first.0,
      first.1,
      (first.3.0, (subst (λ (l : List ℕ). RefuseView c.args.len l c.in-Some.fault) first.3.0 c.in-Some.ensures, refl), first.3.2),
      omega (arith, first.2),
    )

pub returns : goal.returns
returns g c =
    let first = c.in_ok-first.ensures in
    let rest = c.read_seen.ensures in
    let given = g.R.Source.given c.args.reader.now in
    let bytes = c.in_ok-first.first.bytes.items in (
      bytes ++ rest.0,
      reads_on given _ _ bytes rest.0 (bytes ++ rest.0) (first.1 ∙ ap (λ (l : List ℕ). given ++ l) (sym first.3.0)) rest.1 refl,
      viewed _ c.args.len (bytes ++ rest.0) _ _ c.read_seen.result (rw first.3.2 at rest.3),
      rest.2,
    )
