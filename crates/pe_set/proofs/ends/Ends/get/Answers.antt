use Rattle.std.proofs.Common.{◌∙◌, refl, sym, subst}
use Rattle.std.specs.Prelude.{IfSome}
use Rattle.std.specs.BTreeMap.{is_at}
use Rattle.std.specs.Map.{lookup}
use Rattle.pe_set.specs.SearchEnds.{EndsFrom}
use Rattle.pe_set.proofs.EndsKnown.{known_end}
use Rattle.pe_set.proofs.Standings.{compare}
use Rattle.pe_set.proofs.ends.Ends.get.Goals as goal

pub returns : goal.returns
returns g c = λ s p known at.
    let entries = c.args.self.now.ends.entries in
    subst (λ found. IfSome found (λ end. EndsFrom s end p)) (sym (c.copied.ensures ∙ c.get.ensures.value)) (known_end s entries c.args.at p known at (lookup (is_at (compare c.args.at)) entries) refl)
