use Rattle.std.proofs.Common.{◌∙◌, ◌+◌, List, ℕ, ap, arith}
use Rattle.std.specs.Prelude.{position}
use Rattle.std.specs.Str.{bytes_eq, str_to_ascii_lowercase}
use Rattle.pe_set.specs.Set.{forwarded_name}
use Rattle.pe_set.specs.NamesView.{names_in}
use Rattle.pe_set.proofs.LongNames.{forwarded_alike}
use Rattle.pe_set.proofs.module_names.Names.forward_into.Goals as goal

pub returns : goal.returns
returns g c =
    let names = c.args.self.now in
    ap (λ (text : List ℕ). position (λ name. bytes_eq text name) (names_in names)) (c.in_ok-forward_into.ensures ∙ ap (λ (bytes : List ℕ). str_to_ascii_lowercase (forwarded_name bytes)) c.beginning.ensures)
    ∙ forwarded_alike names.longest (names_in names) names.none_longer c.args.name.now (names.longest + 1) (omega arith)
