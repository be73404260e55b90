use Rattle.std.proofs.Common.{◌∙◌, sym}
use Rattle.std.proofs.lemmas.List.FromFn.{length-map-range_with_len}
use Rattle.pe_trust.specs.Rich.{pair_at, pair_count}
use Rattle.pe_trust.specs.RichView.{rich_view}
use Rattle.pe_view.specs.View.{bytes_of}
use Rattle.pe_json.specs.RichRows.{pair_row}
use Rattle.pe_json.proofs.rich.RichHeaderRows.count.Goals as goal

pub returns : goal.returns
returns c =
    let r = rich_view c.args.self.now in
    c.len.ensures ∙ sym (length-map-range_with_len (λ i. pair_row (pair_at (bytes_of c.args.self.now.file) r i)) 0 (pair_count r))
