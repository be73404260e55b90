use Rattle.std.proofs.Common.{◌≡◌, ◌++◌, ℕ, List, codes, map, refl, subst, append_assoc}
use Rattle.json.specs.Print.{escape_byte}
use Rattle.pe_text.specs.TextWriter.{Adds}
use Rattle.pe_text.proofs.Adding.{◌then◌}
use Rattle.pe_version.specs.TablesLeft.{entries_left}
use Rattle.pe_json.specs.JsonText.{member, object, list, with_commas}
use Rattle.pe_json.specs.Shown.{shown_string}
use Rattle.pe_json.specs.Utf16.{utf8_text}
use Rattle.pe_json.specs.VersionRows.{string_row}
use Rattle.pe_json.proofs.version.write_table.Goals as goal

-- the bracket and the brace at the end, of the list and of the object
ends : (key rows : List ℕ) → (key ++ (codes ",\"strings\":[" ++ rows)) ++ codes "]}" ≡ (key ++ (codes ",\"strings\":[" ++ (rows ++ codes "]"))) ++ codes "}"
ends key rows = simp append_assoc refl

pub returns : goal.returns
unfolding object with_commas member list escape_byte
returns g c =
    let key = codes "{\"key\":" ++ shown_string (utf8_text c.args.table.key.now) in
    let rows = with_commas (map string_row (entries_left c.args.table.strings)) in
    subst (λ (xs : List ℕ). Adds g.W.Sink.taken g.W.Sink.failures c.args.text.now c.text-3.new.self xs) (ends key rows)
    ((c.text.ensures then c.write_units.ensures) then (c.text-2.ensures then c.write_each_string.ensures) then c.text-3.ensures)
