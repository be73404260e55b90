use denote.Param.{number}
use Rattle.std.proofs.Common.{◌≡◌, ◌+◌, ◌*◌, ◌-◌}
use Rattle.std.specs.Prelude.{map}
use Rattle.std.specs.List.{range_with_len}
use Rattle.pe_view.specs.Faults.{first_standing}
use Rattle.pe_view.specs.View.{bytes_of}
use Rattle.coff_read.specs.FormFaults.{relocation_test, relocation_tests}
use Rattle.coff_read.specs.contracts.relocation.check_relocations.{BIG-type}
use Rattle.coff_read.proofs.relocation.check_relocations.Given as goal

abbrev pub invariant-loop-k : goal.invariant-loop-k
invariant-loop-k g l =
    let big = BIG-type (number g.row.BIG) in
    first_standing (map (λ k. relocation_test big (bytes_of l.view) (l.start + 10 * k)) (range_with_len l.k (l.count - l.k))) ≡ first_standing (relocation_tests big (bytes_of l.view) l.h)
