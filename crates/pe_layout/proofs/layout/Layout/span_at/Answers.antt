-- The bytes that remain of the headers.
use Rattle.std.proofs.Common.{◌≡◌, ◌∙◌, Option, None, Some, List, ℕ, refl, arith}
use Rattle.std.specs.Option.{option_or}
use Rattle.pe_layout.specs.Layout.{headers_of, file_of, image_of}
use Rattle.pe_layout.proofs.Texts.{header_text}
use Rattle.pe_layout.proofs.layout.Layout.span_at.Goals as goal

or_none : (t : Option (List ℕ)) → option_or t None ≡ t
or_none None = refl
or_none (Some text) = refl

pub returns-then-rva-header_bytes-clause-text : goal.returns-then-rva-header_bytes-clause-text
unfolding image_of
returns-then-rva-header_bytes-clause-text c =
    let l = c.args.self.now in
    let bytes = c.size_of_headers-header_bytes.ensures in
    rw (c.from.ensures, c.from-then-rva-header_bytes.ensures, bytes)
    (or_none _ ∙ header_text (headers_of l) (file_of l) c.args.rva l.headers_held l.headers_inside (omega (arith, bytes, c.if-rva-header_bytes.true)))
