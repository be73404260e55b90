-- An offset after the size field leads to a string up to the last zero byte.
use denote.Param.{number}
use Rattle.std.proofs.Common.{◌∙◌, Bool, sym, ap}
use Rattle.std.specs.Prelude.{is_none, nat_le, ◌||◌}
use Rattle.std.proofs.lemmas.Bool.{le-ltb}
use Rattle.coff_read.specs.NameField.{name_in}
use Rattle.coff_read.specs.declared.names.NameField.{NameField}
use Rattle.coff_read.specs.contracts.names.has_no_text.{BIG-type}
use Rattle.coff_read.proofs.names.has_no_text.Goals as goal

pub returns-else-offset-lt4 : goal.returns-else-offset-lt4
returns-else-offset-lt4 g c =
    let big = BIG-type (number g.row.BIG) in
    let offset = c.in-Offset.offset in
    let texts = c.args.tables.texts in
    λ file stand. (
    let led = stand.texts offset ∙ ap (λ (b : Bool). b || nat_le texts offset) (le-ltb offset 4 c.if-offset-lt4.false) in
    ap (nat_le texts) c.from.ensures ∙ sym led ∙ ap (λ (f : NameField). is_none (name_in big file f)) (sym c.in-Offset.is))
