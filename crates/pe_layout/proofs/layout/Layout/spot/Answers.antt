-- Where the search among the sections finds an RVA.
use Rattle.std.proofs.Common.{◌≡◌, ◌≤◌, ◌-◌, ◌∙◌, ap, ℕ, get_or, arith}
use Rattle.pe_view.specs.View.{size_of}
use Rattle.pe_layout.specs.Piece.{end_of}
use Rattle.pe_layout.specs.Layout.{headers_of}
use Rattle.pe_layout.proofs.SectionPlaces.{no_header}
use Rattle.pe_layout.proofs.OfLayout.{sections_placed}
use Rattle.pe_layout.proofs.Finding.{in_section, in_gap_before, ended}
use Rattle.pe_layout.proofs.layout.Layout.spot.Goals as goal

pub sections_begun-begun-requires : goal.sections_begun-begun-requires
sections_begun-begun-requires c = (sections_placed c.args.self.now).apart

pub returns-then-begun-eq0 : goal.returns-then-begun-eq0
returns-then-begun-eq0 c =
    let l = c.args.self.now in
    rw c.gap_end.ensures
    (in_gap_before (headers_of l) (size_of l.view) (sections_placed l) 0 c.args.rva no_header (omega arith) (λ j lt. absurd (omega (arith, lt)))
    (λ j le lt. c.sections_begun-begun.ensures.after j no_header (omega (arith, c.if-begun-eq0.true)) lt) c.requires)

pub returns-then-end_of-from : goal.returns-then-end_of-from
returns-then-end_of-from c =
    let l = c.args.self.now in
    let h = headers_of l in
    let n : ℕ = c.sections_begun-begun.result in
    let last : ℕ = n - 1 in
    let found = c.section-section.ensures no_header in
    let end : c.end_of.result ≡ end_of (get_or h.sections.items last no_header) = c.end_of.ensures ∙ ap end_of found in
    let ends : end_of (get_or h.sections.items last no_header) ≤ c.args.rva = omega (arith, end, c.from.ensures, c.if-end_of-from.true) in
    let begins = c.sections_begun-begun.ensures.before last no_header (omega arith) in
    rw c.gap_end-then-end_of-from.ensures
    (in_gap_before h (size_of l.view) (sections_placed l) n c.args.rva no_header c.sections_begun-begun.ensures.bound
    (λ j lt. ended h.sections.items (sections_placed l).apart c.args.rva last j no_header (omega (arith, lt)) (omega arith) begins ends)
    (λ j le lt. c.sections_begun-begun.ensures.after j no_header le lt) c.requires)

pub returns : goal.returns
returns c =
    let l = c.args.self.now in
    let h = headers_of l in
    let n : ℕ = c.sections_begun-begun.result in
    let last : ℕ = n - 1 in
    let found = c.section-section.ensures no_header in
    let end : c.end_of.result ≡ end_of (get_or h.sections.items last no_header) = c.end_of.ensures ∙ ap end_of found in
    let begins = c.sections_begun-begun.ensures.before last no_header (omega arith) in
    rw found (in_section h (size_of l.view) (sections_placed l) last c.args.rva no_header (omega arith)
    (record { low = begins; high = omega (arith, end, c.from.ensures, c.if-end_of-from.false) }))
