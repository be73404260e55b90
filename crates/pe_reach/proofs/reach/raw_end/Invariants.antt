use Rattle.std.proofs.Common.{◌≡◌, ◌-◌}
use Rattle.std.specs.Prelude.{max, map}
use Rattle.std.specs.List.{range_with_len}
use Rattle.pe_head.specs.Checked.{checked_file}
use Rattle.pe_head.specs.Head.{coff_field, section_at}
use Rattle.pe_reach.specs.Reach.{raw_end}
use Rattle.pe_reach.proofs.reach.raw_end.Given as goal

abbrev pub invariant-loop-index : goal.invariant-loop-index
invariant-loop-index l =
    let file = checked_file l.headers in
    max l.end (raw_end (map (section_at file) (range_with_len l.index (coff_field file 2 2 - l.index))))
    ≡ max l.least (raw_end (map (section_at file) (range_with_len 0 (coff_field file 2 2))))
