use Rattle.std.proofs.Common.{◌≡◌, ◌++◌, ◌-◌, ◌^◌}
use Rattle.pe_view.specs.View.{bytes_of}
use Rattle.pe_view.specs.Standing.{standing}
use Rattle.pe_version.specs.Findings.{level_tests}
use Rattle.pe_version.proofs.findings.+find_blocks.Given as goal

abbrev pub decreases-find_blocks : goal.decreases-find_blocks
decreases-find_blocks g l = l.levels

abbrev pub invariant-loop-block : goal.invariant-loop-block
invariant-loop-block g l = record {
  view : l.left.view ≡ l.initial.left.view;
  end : l.left.end ≡ l.initial.left.end;
  found : l.findings.items ++ standing (level_tests l.image l.rva (bytes_of l.left.view) l.levels l.left.end l.left.at)
      ≡ l.initial.findings.items ++ standing (level_tests l.image l.rva (bytes_of l.initial.left.view) l.levels l.initial.left.end l.initial.left.at);
}

abbrev pub decreases-loop-block : goal.decreases-loop-block
decreases-loop-block g l = 2 ^ 18 - l.left.at
