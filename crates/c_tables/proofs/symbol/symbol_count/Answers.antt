use Rattle.std.proofs.Common.{◌∙◌, sym}
use Rattle.std.proofs.lemmas.List.{length-map}
use Rattle.c_tables.specs.SymbolRows.{symbols_of}
use Rattle.c_tables.proofs.symbol.symbol_count.Goals as goal

pub returns : goal.returns
unfolding symbols_of
returns c = c.symbol_count.ensures ∙ length-map _ _ ∙ sym (length-map _ _)
