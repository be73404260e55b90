use Rattle.std.proofs.Common.{◌∙◌, List, ℕ, ap}
use Rattle.std.specs.Prelude.{position}
use Rattle.std.specs.Str.{bytes_eq}
use Rattle.pe_set.specs.NamesView.{names_in}
use Rattle.pe_set.proofs.module_names.Names.find.Goals as goal

pub returns : goal.returns
returns g c = c.number.ensures ∙ ap (λ (text : List ℕ). position (λ other. bytes_eq text other) (names_in c.args.self.now)) c.as_slice.ensures.value ∙ c.in_ok-name_into.ensures
