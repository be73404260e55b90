use Rattle.std.proofs.Common.{◌∙◌, ◌+◌, List, ℕ, ap, arith}
use Rattle.std.specs.Prelude.{position}
use Rattle.std.specs.Str.{bytes_eq, str_to_ascii_lowercase}
use Rattle.pe_set.specs.NamesView.{names_in}
use Rattle.pe_set.proofs.LongNames.{beginning_alike}
use Rattle.pe_set.proofs.module_names.Names.name_into.Goals as goal

pub returns : goal.returns
returns g c =
    let names = c.args.self.now in
    ap (λ (text : List ℕ). position (λ name. bytes_eq text name) (names_in names)) (c.in_ok-lower_into.ensures ∙ ap str_to_ascii_lowercase c.beginning.ensures)
    ∙ beginning_alike names.longest (names_in names) names.none_longer c.args.name.now (names.longest + 1) (omega arith)
