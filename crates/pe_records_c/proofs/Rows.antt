-- Rows filled with the items of a table are those that contracts name.
use Rattle.std.proofs.Common.{◌≡◌, ◌≢◌, ℕ, zero, suc, ◌<◌, ◌+◌, List, [], ◌∷◌, length, drop, get_or, set, Some, refl, sym, ap, ◌∙◌, arith, below_more, get_or-set_other, get_or-set_same}
use Rattle.std.proofs.lemmas.List.{map-id, length-map, drop-drop, drop-set-lt}
use Rattle.std.proofs.lemmas.Option.{same_Some}
use Rattle.std.specs.Prelude.{map, slice_get, nat_le, if◌then◌else◌}
use Rattle.pe_records_c.specs.Rows.{filled, Fills, TellsTable}

abbrev Told : {T R : Type 0} → (T → R → Type 0) → List T → List R → Type 0
Told tells table new = (item : _) (row : _) (k : ℕ) → k < length table → k < length new → tells (get_or table k item) (get_or new k row)

told_filled : {T R S W : Type 0} (view : R → W) (item : T → S) (row : S → W) (table : List T) (old new : List R) → length new ≡ length old → Told (λ x r. view r ≡ row (item x)) table new → drop (length table) new ≡ drop (length table) old → map view new ≡ filled row (map item table) (map view old)
told_filled view item row [] [] [] len told others = refl
told_filled view item row [] [] (r ∷ new) len told others = absurd cc
told_filled view item row [] (o ∷ old) [] len told others = absurd cc
told_filled view item row [] (o ∷ old) (r ∷ new) len told others = ap (map view) others
told_filled view item row (x ∷ table) [] [] len told others = refl
told_filled view item row (x ∷ table) [] (r ∷ new) len told others = absurd cc
told_filled view item row (x ∷ table) (o ∷ old) [] len told others = absurd cc
told_filled view item row (x ∷ table) (o ∷ old) (r ∷ new) len told others =
    let len_tail : length new ≡ length old = omega (arith, len) in
    let here : view r ≡ row (item x) = told x r 0 (omega arith) (omega arith) in
    let tail = told_filled view item row table old new len_tail (λ y q k a b. told y q (suc k) (omega (arith, a)) (omega (arith, b))) others in
    rw here (ap (λ (rest : List _). row (item x) ∷ rest) tail)

-- what the rows show is what the table's items show
pub rows_filled : {T R S W : Type 0} (view : R → W) (item : T → S) (row : S → W) (table : List T) (old new : List R) → Fills (λ x r. view r ≡ row (item x)) table old new → map view new ≡ filled row (map item table) (map view old)
rows_filled view item row table old new fills = told_filled view item row table old new fills.len fills.told fills.others

-- rows that are made from the table's items alone
pub rows_made : {T R : Type 0} (row : T → R) (table : List T) (old new : List R) → Fills (λ x r. r ≡ row x) table old new → new ≡ filled row table old
rows_made row table old new fills =
    let shown = rows_filled (λ r. r) (λ x. x) row table old new fills in
    sym (map-id new) ∙ shown ∙ ap (λ t. filled row t (map (λ r. r) old)) (map-id table) ∙ ap (λ o. filled row table o) (map-id old)

-- a table that was copied into rows, by what its items show
pub table_told : {T R S W : Type 0} (view : R → W) (item : T → S) (row : S → W) (table : List T) (items : List S) (old new : List R) (count status : ℕ) → map item table ≡ items
    → Fills (λ x r. view r ≡ row (item x)) table old new → count ≡ length table → status ≡ (if nat_le (length table) (length old) then 0 else 4) → TellsTable view row items old new count status
table_told view item row table items old new count status shown fills counted answered =
    let len : length items ≡ length table = ap length (sym shown) ∙ length-map table item in
    record {
      rows = rows_filled view item row table old new fills ∙ ap (λ t. filled row t (map view old)) shown;
      count_is = counted ∙ sym len;
      status_is = answered ∙ ap (λ (n : ℕ). if nat_le n (length old) then 0 else 4) (sym len);
    }

got : {X : Type 0} (xs : List X) (k : ℕ) (d x : X) → slice_get xs k ≡ Some x → get_or xs k d ≡ x
got [] k d x is = absurd cc
got (y ∷ xs) zero d x is = same_Some y x is
got (y ∷ xs) (suc k) d x is = got xs k d x is

-- one more row is filled
pub told_step : {T R W : Type 0} (view : R → W) (row : T → W) (table : List T) (rows : List R) (i : ℕ) (x : T) (r : R) → i < length rows → slice_get table i ≡ Some x → view r ≡ row x
    → ((item : T) (q : R) (k : ℕ) → k < i → view (get_or rows k q) ≡ row (get_or table k item))
    → (item : T) (q : R) (k : ℕ) → k < i + 1 → view (get_or (set rows i r) k q) ≡ row (get_or table k item)
told_step view row table rows i x r under is here before item q =
    below_more _ _ (λ k h. let other : k ≢ i = omega (arith, h) in rw get_or-set_other (before item q k h))
    (rw get_or-set_same (here ∙ ap row (sym (got table i item x is))))

-- and the rows after it are unchanged
pub rest_step : {R : Type 0} (rows old : List R) (i : ℕ) (r : R) → drop i rows ≡ drop i old → drop (i + 1) (set rows i r) ≡ drop (i + 1) old
rest_step rows old i r same = drop-set-lt (i + 1) rows i r (omega arith) ∙ sym (drop-drop 1 i rows) ∙ ap (drop 1) same ∙ drop-drop 1 i old

-- a table from its rows, count and status
pub table_of : {T R W : Type 0} (view : R → W) (row : T → W) (table : List T) (old new : List R) (count status : ℕ) → Fills (λ x r. view r ≡ row x) table old new → count ≡ length table
    → status ≡ (if nat_le count (length new) then 0 else 4) → TellsTable view row table old new count status
table_of view item table old new count status fills counted answered =
    let items = ap (λ (n : ℕ). if nat_le n (length new) then 0 else 4) counted in
    let room = ap (λ (n : ℕ). if nat_le (length table) n then 0 else 4) fills.len in
    table_told view (λ x. x) item table table old new count status (map-id table) fills counted (answered ∙ items ∙ room)
