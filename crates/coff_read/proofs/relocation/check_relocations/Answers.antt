-- One relocation more.
use denote.Param.{number}
use Rattle.std.proofs.Common.{◌∙◌, ◌+◌, ◌*◌, ◌≤◌, ◌<◌, ℕ, Some, sym, ap, arith}
use Rattle.std.proofs.lemmas.Bool.{le-leb, lt-leb}
use Rattle.pe_view.specs.View.{bytes_of}
use Rattle.coff_read.specs.Field.{field}
use Rattle.coff_read.specs.FormFaults.{relocation_test}
use Rattle.coff_read.specs.FormReading.{record_count}
use Rattle.coff_read.specs.contracts.relocation.check_relocations.{BIG-type}
use Rattle.coff_read.proofs.Walk.{pass_test, stop_test}
use Rattle.coff_read.proofs.relocation.check_relocations.Goals as goal

pub loop-k-preserved : goal.loop-k-preserved
loop-k-preserved g c =
    let big = BIG-type (number g.row.BIG) in
    let file = bytes_of c.args.view in
    let start : ℕ = c.from-start.result in
    let records = c.requires.tables.records in
    let symbol = c.u32_in-in-loop-k.ensures in
    let under : field file (start + 10 * c.loop-k.k) 4 4 < record_count big file = omega arith in
    pass_test (λ k. relocation_test big file (start + 10 * k)) c.loop-k.k _ _ c.loop-k-test.true (lt-leb _ _ under) c.loop-k.invariant

pub returns-then-from-tables : goal.returns-then-from-tables
returns-then-from-tables g c =
    let big = BIG-type (number g.row.BIG) in
    let file = bytes_of c.args.view in
    let start : ℕ = c.from-start.result in
    let at : ℕ = start + 10 * c.loop-k.k in
    let records = c.requires.tables.records in
    let symbol = c.u32_in-in-loop-k.ensures in
    let read = c.from.ensures in
    let past = c.if-from-tables.true in
    let over : record_count big file ≤ field file at 4 4 = omega (arith, records, symbol, read, past) in
    stop_test (λ k. relocation_test big file (start + 10 * k)) c.loop-k.k _ _ c.loop-k-test.true (le-leb _ _ over) c.loop-k.invariant ∙ ap Some (sym c.file_fault.ensures)
