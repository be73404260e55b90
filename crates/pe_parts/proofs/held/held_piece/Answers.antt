use Rattle.std.proofs.Common.{◌≡◌, ◌∙◌, ◌<◌, ◌≤◌, Some, sym, arith}
use Rattle.pe_layout.specs.Layout.{headers_of}
use Rattle.pe_layout.specs.Piece.{section_of}
use Rattle.pe_parts.proofs.Pieces.{end_in_headers, end_in_section, end_of_absent}
use Rattle.pe_parts.proofs.held.held_piece.Goals as goal

pub returns-then-rva-header_bytes-clause-ends : goal.returns-then-rva-header_bytes-clause-ends
returns-then-rva-header_bytes-clause-ends c =
    let p = headers_of c.args.layout.now in
    let bytes : c.size_of_headers-header_bytes.result ≡ p.size_of_headers = c.size_of_headers-header_bytes.ensures in
    c.from.ensures ∙ bytes ∙ sym (end_in_headers p c.args.rva (omega (arith, bytes, c.if-rva-header_bytes.true)))

pub returns-then-rva-header_bytes-clause-all : goal.returns-then-rva-header_bytes-clause-all
returns-then-rva-header_bytes-clause-all c = λ k low high.
    let p = headers_of c.args.layout.now in
    let bytes : c.size_of_headers-header_bytes.result ≡ p.size_of_headers = c.size_of_headers-header_bytes.ensures in
    end_in_headers p k (omega (arith, bytes, high, c.from.ensures)) ∙ sym bytes ∙ sym c.from.ensures

pub returns-then-section-eq0-clause-ends : goal.returns-then-section-eq0-clause-ends
returns-then-section-eq0-clause-ends c =
    let p = headers_of c.args.layout.now in
    let bytes : c.size_of_headers-header_bytes.result ≡ p.size_of_headers = c.size_of_headers-header_bytes.ensures in
    let s = c.in-Some.section in
    let found : section_of p c.args.rva ≡ Some s = sym (rw c.in-Some.is at c.section_at.ensures.found) in
    sym (end_of_absent p c.args.rva s (omega (arith, bytes, c.if-rva-header_bytes.false)) found (omega (arith, c.if-section-eq0.true)))

pub returns-clause-begins : goal.returns-clause-begins
returns-clause-begins c =
    let low = (rw c.in-Some.is at c.section_at.ensures.inside).low in
    omega (arith, low, c.if-rva-header_bytes.false, c.max.ensures)

pub returns-clause-ends : goal.returns-clause-ends
returns-clause-ends c =
    let p = headers_of c.args.layout.now in
    let bytes : c.size_of_headers-header_bytes.result ≡ p.size_of_headers = c.size_of_headers-header_bytes.ensures in
    let s = c.in-Some.section in
    let found : section_of p c.args.rva ≡ Some s = sym (rw c.in-Some.is at c.section_at.ensures.found) in
    let high : p.size_of_headers ≤ c.args.rva = omega (arith, bytes, c.if-rva-header_bytes.false) in
    let some : 0 < s.pointer_to_raw_data = omega (arith, c.if-section-eq0.false) in
    omega (arith, end_in_section p c.args.rva s high found some, c.from-2.ensures, c.from-3.ensures, c.extent.ensures)
