-- The sizes of the images of a set, entry by entry.
use Rattle.std.proofs.Common.{◌≡◌, ◌+◌, ◌≤◌, ℕ, List, ◌∷◌, drop, length, sym, ap, ◌∙◌}
use Rattle.std.proofs.lemmas.List.{drop_all}
use Rattle.std.specs.Prelude.{map}
use Rattle.pe_records_c.specs.SetRows.{entry_text, claimed_size, claimed_sizes}
use Rattle.pe_records_c.specs.declared.set.EntryRecord.{EntryRecord}
use Rattle.pe_records_c.proofs.Left.{first_left}

-- the entries from an index on are that entry, and those from the next on
pub claimed_step : (set : List EntryRecord) (i : ℕ) (x : EntryRecord) (rest : List EntryRecord) → drop i set ≡ x ∷ rest
    → claimed_sizes (map entry_text (drop i set)) ≡ claimed_size x.file.now + claimed_sizes (map entry_text (drop (i + 1) set))
claimed_step set i x rest is =
    ap (λ (es : List EntryRecord). claimed_sizes (map entry_text es)) is ∙ ap (λ (es : List EntryRecord). claimed_size x.file.now + claimed_sizes (map entry_text es)) (sym (first_left set i x rest is).1)

-- past the last there is none
pub none_claimed : (set : List EntryRecord) (i : ℕ) → length set ≤ i → claimed_sizes (map entry_text (drop i set)) ≡ 0
none_claimed set i past = ap (λ (es : List EntryRecord). claimed_sizes (map entry_text es)) (drop_all i set past)
