-- The size of the table, its size field counted.
use Rattle.std.proofs.Common.{◌∙◌, ◌+◌, ℕ, List, length, sym, ap}
use Rattle.coff_object.specs.PartsView.{parts_view}
use Rattle.coff_object.specs.StringTableView.{counted}
use Rattle.coff_read.specs.Strings.{string_bytes}
use Rattle.coff_object.proofs.WrittenSize.{table_len}
use Rattle.coff_object.proofs.write.table_size.Goals as goal

pub returns-then-has_strings : goal.returns-then-has_strings
returns-then-has_strings g c =
    let some = sym c.has_strings.ensures ∙ c.if-has_strings.true in
    c.size.ensures ∙ ap (λ (ts : List (List ℕ)). counted (4 + length (string_bytes ts))) c.requires
    ∙ ap counted (sym (table_len (parts_view g.S.WideSymbol.view c.args.object.now) some))
