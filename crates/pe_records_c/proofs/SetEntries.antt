-- The entries of a set that were copied into an array are those that are read.
use Rattle.std.proofs.Common.{◌≡◌, ℕ, List, length, take, drop, ◌++◌, sym, ap, ◌∙◌}
use Rattle.std.proofs.lemmas.List.{map-id, length-map, length-take, take-map, take_at}
use Rattle.std.specs.Prelude.{map, min}
use Rattle.pe_set.specs.Set.{Entry}
use Rattle.pe_set.specs.SetView.{entries_of, entry_view}
use Rattle.pe_set.specs.declared.entry.SetEntry.{SetEntry}
use Rattle.pe_records_c.specs.Rows.{Fills}
use Rattle.pe_records_c.specs.SetRows.{entry_text, counted}
use Rattle.pe_records_c.specs.declared.set.EntryRecord.{EntryRecord}
use Rattle.pe_records_c.proofs.Rows.{rows_filled}

pub entries_put : (rows : List EntryRecord) (old new : List SetEntry) (n : ℕ) → length old ≡ 257 → n ≡ min 257 (length rows) → Fills (λ row entry. entry_view entry ≡ entry_text row) rows old new → entries_of (take n new) ≡ counted (map entry_text rows)
entries_put rows old new n len count fills =
    let all : List Entry = map entry_text rows in let old_entries : List Entry = map entry_view old in
    let first : List Entry = take 257 all in let rest : List Entry = drop (length all) old_entries in
    let put : map entry_view new ≡ first ++ rest =
    rows_filled entry_view entry_text (λ entry. entry) rows old new fills ∙ ap (λ (front : List Entry). front ++ rest) (map-id (take (length old_entries) all))
    ∙ ap (λ (k : ℕ). take k all ++ rest) (length-map old entry_view ∙ len) in
    let as_many : length first ≡ n = length-take 257 all ∙ ap (min 257) (length-map rows entry_text) ∙ sym count in
    sym (take-map entry_view n new) ∙ ap (take n) put ∙ take_at first rest n as_many
