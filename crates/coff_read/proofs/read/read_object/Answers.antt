-- A file without a fault has none in its header.
use Rattle.std.proofs.Common.{◌++◌}
use Rattle.pe_view.specs.FirstStanding.{none-append}
use Rattle.coff_read.specs.ObjectFaults.{header_tests, symbol_table_tests, record_tests, object_tests}
use Rattle.coff_read.proofs.read.read_object.Goals as goal

pub returns-in_err-read-clause-memory : goal.returns-in_err-read-clause-memory
unfolding object_tests
returns-in_err-read-clause-memory g c =
    let file = c.args.file.now in
    λ memory. (none-append (header_tests file) (symbol_table_tests file ++ record_tests file) c.in_ok-judged.ensures.0).0
