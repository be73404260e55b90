use Rattle.pe_view.specs.View.{bytes_of}
use Rattle.pe_trust.specs.RichView.{rich_view}
use Rattle.c_tables.proofs.RichPairs.{pair_got}
use Rattle.c_tables.proofs.rich.PairsItemsRichPair.item.Goals as goal

pub returns : goal.returns
returns c =
    let header = c.args.self.now.header in
    pair_got (bytes_of header.file) (rich_view header) c.args.index c.get.result c.get.ensures
