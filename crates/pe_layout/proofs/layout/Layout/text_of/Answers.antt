-- A string ends before the end of its span.
use Rattle.std.proofs.Common.{◌∙◌, sym, ap, arith}
use Rattle.std.specs.Prelude.{option_map}
use Rattle.pe_layout.specs.Layout.{file_of}
use Rattle.pe_layout.proofs.layout.Layout.text_of.Goals as goal

pub overflow_add-result : goal.overflow_add-result
overflow_add-result c =
    let part = c.texts_are_parts.ensures (file_of c.args.self.now) c.args.span.start c.args.span.end c.in-Some.bytes.now (sym c.requires.ended ∙ ap (option_map (λ bytes. bytes.now)) c.in-Some.is) in
    let small = c.requires.inside.small in
    omega (arith, part.0, small)
