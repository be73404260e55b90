-- What the code holds of a Rich header.
use Rattle.pe_trust.specs.Rich.{Pair, Rich}
use Rattle.pe_trust.specs.declared.rich_words.RichHeader.{RichHeader}
use Rattle.pe_trust.specs.declared.rich_words.RichPair.{RichPair}

abbrev pub rich_view : RichHeader → Rich
rich_view r = record { start = r.start; mark = r.mark; key = r.key }

abbrev pub pair_view : RichPair → Pair
pair_view p = record { product = p.product; build = p.build; count = p.count }
