use Rattle.json.specs.Print.{escape_byte}
use Rattle.pe_text.proofs.Adding.{◌then◌}
use Rattle.pe_json.specs.JsonText.{member, list}
use Rattle.pe_json.specs.Listed.{more}
use Rattle.pe_json.specs.SymbolRows.{symbols_unless}
use Rattle.pe_json.proofs.Objects.{adds_none, ended}
use Rattle.pe_json.proofs.image_symbols.write_unless.Goals as goal

pub returns-then-is_left_out : goal.returns-then-is_left_out
unfolding symbols_unless more
returns-then-is_left_out g c = rw c.if-is_left_out.true (adds_none c.requires)

pub returns : goal.returns
unfolding symbols_unless more member list escape_byte
returns g c = rw c.if-is_left_out.false (ended (c.text.ensures then (c.write_rows.ensures then c.text-2.ensures)))
