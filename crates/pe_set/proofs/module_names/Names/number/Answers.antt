use Rattle.std.proofs.Common.{◌∙◌, sym}
use Rattle.std.specs.Str.{bytes_eq}
use Rattle.pe_set.proofs.Searching.{position-map}
use Rattle.pe_set.proofs.module_names.Names.number.Goals as goal

pub returns : goal.returns
returns g c = c.get_index_of.ensures.index ∙ sym (position-map (λ other. bytes_eq c.args.name.now other) (λ name. name.items) c.args.self.now.names.keys)
