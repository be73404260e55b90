use Rattle.std.proofs.Common.{◌≡◌, drop, map}
use Rattle.std.specs.List.{list_any}
use Rattle.pe_ranges.specs.Ranges.{meets}
use Rattle.pe_set.specs.Placement.{Placement}
use Rattle.pe_set.proofs.placement.overlaps_any.Given as goal

abbrev pub invariant-loop-other : goal.invariant-loop-other
invariant-loop-other g l =
    list_any (λ (other : Placement). meets l.base l.size other.base other.size) (map g.P.Placed.placement (drop l.other-index l.others))
    ≡ list_any (λ (other : Placement). meets l.base l.size other.base other.size) (map g.P.Placed.placement l.others)
