use Rattle.std.proofs.Common.{◌≡◌, ◌%◌, ◌^◌}
use Rattle.pe_view.specs.View.{bytes_of}
use Rattle.pe_trust.specs.Rich.{pairs_sum}
use Rattle.pe_trust.specs.RichView.{rich_view}
use Rattle.pe_trust.proofs.rich_words.RichHeader.pairs_sum.Given as goal

abbrev pub invariant-loop-index : goal.invariant-loop-index
invariant-loop-index l = l.sum ≡ pairs_sum (bytes_of l.self.file) (rich_view l.self) l.index % 2 ^ 32
