-- The units are a part of the section's bytes.
use Rattle.std.proofs.Common.{◌≡◌, ◌∙◌, ◌+◌, ◌*◌, refl, ℕ, Some, true, ap, sym}
use Rattle.pe_layout.specs.Layout.{image_of}
use Rattle.pe_layout.specs.Image.{bytes_at, number_at}
use Rattle.pe_resources.specs.Section.{has_name}
use Rattle.pe_resources.specs.Texts.{text_at}
use Rattle.pe_resources.proofs.section.Section.text.Goals as goal

pub returns : goal.returns
returns c =
    let s = c.args.self in
    let i = image_of s.layout.now in
    let o : ℕ = c.args.offset in
    let count : ℕ = number_at 2 i (s.start + o) in
    let has : has_name i s.start o ≡ true = sym c.has_text.ensures ∙ c.if-not-has_text.false in
    let whole : text_at i s.start o ≡ Some (bytes_at i (s.start + (o + 2)) (2 * count)) = rw has refl in
    let units : c.from-len.result ≡ count = c.from-len.ensures ∙ c.u16_at.ensures in
    ap Some (c.bytes.ensures ∙ ap (λ (n : ℕ). bytes_at i (s.start + (o + 2)) (2 * n)) units) ∙ sym whole
