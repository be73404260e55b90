use Rattle.std.proofs.Common.{◌∙◌, ◌++◌, ℕ, List, sym, ap, append_assoc}
use Rattle.pe_reach.proofs.reading.read_enough.Goals as goal

pub returns : goal.returns
returns g c =
    let first = c.in_ok-first.ensures in
    let rest = c.read_rest.ensures in
    let given = g.R.Source.given c.args.reader.now in
    let input = c.in_ok-first.first.bytes.items ++ rest.0 in (
      input,
      rest.1 ∙ ap (λ (gs : List ℕ). gs ++ rest.0) (first.1 ∙ ap (λ (xs : List ℕ). given ++ xs) (sym first.3.0)) ∙ append_assoc given c.in_ok-first.first.bytes.items rest.0,
      rw first.3.2 at rest.3,
      rest.2,
    )
