-- The bytes that remain of the raw data, or the zero fill after it.
use Rattle.std.proofs.Common.{◌≡◌, ◌∙◌, ◌+◌, ◌-◌, ap, sym, arith, refl, ℕ}
use Rattle.pe_view.specs.Number.{part}
use Rattle.pe_view.specs.Text.{text_between}
use Rattle.pe_head.specs.Section.{extent, rawlen}
use Rattle.pe_layout.specs.Layout.{headers_of, file_of}
use Rattle.pe_layout.proofs.Parts.{with_zeros}
use Rattle.pe_layout.proofs.Texts.{raw_text, zero_text, empty_text, or_zeros, rest_of-raw, rest_of-zeros}
use Rattle.pe_layout.proofs.layout.Layout.section_span.Goals as goal

pub returns-in-Raw-clause-text : goal.returns-in-Raw-clause-text
returns-in-Raw-clause-text c =
    let file = file_of c.args.self.now in
    let s = c.args.section.now in
    let o : ℕ = c.in-Raw.file in
    let raw = rest_of-raw s c.args.rva _ _ c.in-Raw.ensures in
    let low = c.requires.found.inside.low in
    let m : ℕ = c.in-Raw.len in
    let start = c.from.ensures in
    let size = c.from-in-Raw.ensures in
    let len = c.rawlen-rawlen.ensures in
    let more = c.extent.ensures in
    let end : c.from.result + c.from-in-Raw.result ≡ o + m = omega (arith, raw.0, raw.1, raw.2, start, size, len) in
    let left : o + m - o ≡ m = omega arith in
    let text = text_between file o (o + m) in
    rw (end, len, more)
    (or_zeros text (part file o (o + m - o)) (rawlen s) (extent s) ∙ ap (λ (n : ℕ). with_zeros text (part file o n) (extent s - rawlen s)) left
    ∙ sym (raw_text (headers_of c.args.self.now) file s c.args.rva c.requires.behind c.requires.found o m (extent s - rawlen s) raw.0 raw.1 raw.2 refl))

pub returns-in-Zeros-clause-text : goal.returns-in-Zeros-clause-text
returns-in-Zeros-clause-text c =
    let l = c.args.self.now in
    let s = c.args.section.now in
    empty_text (file_of l) ∙ sym (zero_text (headers_of l) (file_of l) s c.args.rva c.requires.behind c.requires.found (rest_of-zeros s c.args.rva _ c.in-Zeros.ensures))
