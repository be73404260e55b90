-- The run at an RVA, by the piece or gap that contains it.
use Rattle.std.proofs.Common.{◌-◌, arith}
use Rattle.pe_layout.specs.Layout.{headers_of, file_of, image_of}
use Rattle.pe_layout.proofs.Runs.{header_run, section_run, gap_run}
use Rattle.pe_layout.proofs.layout.Layout.run_at.Goals as goal

pub returns-then-rva-header_bytes : goal.returns-then-rva-header_bytes
unfolding image_of
returns-then-rva-header_bytes c =
    let l = c.args.self.now in
    let bytes = c.size_of_headers-header_bytes.ensures in
    let under = c.if-rva-header_bytes.true in
    rw (c.from.ensures, bytes)
    (header_run (headers_of l) (file_of l) c.args.rva ((headers_of l).size_of_headers - c.args.rva) l.headers_held l.headers_inside (omega (arith, bytes, under)) (omega (arith, bytes, under)))

pub returns-in-Gap : goal.returns-in-Gap
unfolding image_of
returns-in-Gap c =
    let l = c.args.self.now in
    let bytes = c.size_of_headers-header_bytes.ensures in
    gap_run (headers_of l) (file_of l) c.args.rva c.in-Gap.end (omega (arith, bytes, c.if-rva-header_bytes.false)) c.in-Gap.ensures

pub returns-in-Section : goal.returns-in-Section
unfolding image_of
returns-in-Section c =
    let l = c.args.self.now in
    let bytes = c.size_of_headers-header_bytes.ensures in
    rw c.rest_of.ensures (section_run (headers_of l) (file_of l) c.in-Section.section c.args.rva (omega (arith, bytes, c.if-rva-header_bytes.false)) c.in-Section.ensures.found)
