use Rattle.std.proofs.Common.{◌≡◌, ◌∙◌, ◌++◌, ◌≤◌, ◌+◌, ◌^◌, ℕ, List, length, ap, subst, append_assoc}
use Rattle.pe_reach.proofs.view_reading.read_seen.Goals as goal

pub returns : goal.returns
returns g c =
    let first = c.args.first.bytes.items in
    let read = c.in_ok-read.ensures in
    let rest = c.read_names.ensures in
    let given = g.R.Source.given c.args.reader.now in
    let same : c.in_ok-read.read.bytes.items ++ rest.0 ≡ first ++ (read.0 ++ rest.0) = ap (λ (l : List ℕ). l ++ rest.0) read.3.0 ∙ append_assoc first read.0 rest.0 in (
      read.0 ++ rest.0,
      rest.1 ∙ ap (λ (l : List ℕ). l ++ rest.0) read.1 ∙ append_assoc given read.0 rest.0,
      subst (λ (l : List ℕ). length l ≤ 2 ^ 32 + 1) same rest.2,
      rw (same, read.3.2) at rest.3,
    )
