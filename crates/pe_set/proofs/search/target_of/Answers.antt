-- What is not a long name at a known place is asked of the image itself.
use Rattle.std.proofs.Common.{sym}
use Rattle.std.specs.Prelude.{option_map}
use Rattle.pe_tables.specs.Key.{key_view, target_view}
use Rattle.pe_set.proofs.Searching.{target_is}
use Rattle.pe_set.proofs.search.target_of.Goals as goal

pub returns-in-None-clause-exact : goal.returns-in-None-clause-exact
returns-in-None-clause-exact g c =
    sym (target_is c.args.modules.now c.index-modules-number.result c.args.number (key_view c.args.key) (option_map target_view c.target.result) c.requires.number c.index-modules-number.is c.target.ensures)
