use Rattle.std.proofs.Common.{◌+◌, ◌*◌, ◌≤◌, ◌<◌, ℕ, List, subst, arith}
use Rattle.pe_map_lines.specs.MapReport.{bytes_line}
use Rattle.pe_text.specs.TextWriter.{Adds}
use Rattle.pe_text.proofs.Adding.{◌then◌}
use Rattle.pe_text.proofs.Numbering.{line_more}
use Rattle.pe_map_lines.proofs.MapLines.{bytes_read}
use Rattle.pe_map_lines.proofs.map_lines.write_window.Goals as goal

pub loop-index-preserved : goal.loop-index-preserved
loop-index-preserved g c =
    let k : ℕ = c.loop-index.index in
    let len = c.min-len.ensures in
    let first = c.from.ensures in
    let content = g.S.Space.content c.args.space.now in
    let below : 16 * k < c.args.count = let e = c.div_ceil-index-end.ensures in let lt = c.loop-index-test.true in omega arith in
    let fits : 16 * k + c.min-len.result ≤ c.args.count = omega arith in
    let ok = rw first at c.window.ensures.ok in
    let bytes = bytes_read content (c.args.address + 16 * k) c.min-len.result _ c.window.new.buffer _ c.window.result c.if-is_err.ensures.negation (omega arith)
    (c.requires.inside (16 * k) c.min-len.result fits) ok in
    let line = subst (λ (xs : List ℕ). Adds g.W.Sink.taken g.W.Sink.failures c.loop-index.text c.write_bytes_line.new.line (bytes_line (c.args.address + 16 * k) xs)) bytes (rw first at c.write_bytes_line.ensures) in
    record { adds = rw line_more (c.loop-index.invariant.adds then (rw len at line)) }
