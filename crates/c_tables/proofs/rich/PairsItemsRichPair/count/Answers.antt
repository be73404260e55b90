use Rattle.std.proofs.Common.{◌∙◌, sym}
use Rattle.pe_view.specs.View.{bytes_of}
use Rattle.pe_trust.specs.RichView.{rich_view}
use Rattle.c_tables.proofs.RichPairs.{pairs_counted}
use Rattle.c_tables.proofs.rich.PairsItemsRichPair.count.Goals as goal

pub returns : goal.returns
returns c =
    let header = c.args.self.now.header in
    c.len.ensures ∙ sym (pairs_counted (bytes_of header.file) (rich_view header))
