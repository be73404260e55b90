use Rattle.std.proofs.Common.{◌≡◌, ◌∙◌, false, sym, rules}
use Rattle.pe_ranges.specs.RangesView.{ranges_in}
use Rattle.pe_tables.proofs.Clear.{clear}
use Rattle.pe_tables.proofs.fixups.is_clear.Goals as goal

pub returns : goal.returns
returns g c = λ yes.
    let apart : c.meets.result ≡ false = search rules in
    clear c.args.page (ranges_in c.args.slots.now) (sym c.meets.ensures ∙ apart)
