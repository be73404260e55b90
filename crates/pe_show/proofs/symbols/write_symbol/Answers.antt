use Rattle.pe_text.proofs.Adding.{◌then◌}
use Rattle.pe_show.specs.Rows.{symbol_row}
use Rattle.pe_show.proofs.symbols.write_symbol.Goals as goal

pub returns : goal.returns
unfolding symbol_row
returns g c =
    let word = rw c.function_word.ensures at c.text-5.ensures in
    c.write_right.ensures then (c.text.ensures then (c.hex.ensures then (c.text-2.ensures then (c.write_number.ensures then (c.text-3.ensures
    then (c.write_column.ensures then (c.text-4.ensures then (c.write_class.ensures then (word then (c.write_name.ensures then c.text-6.ensures))))))))))
