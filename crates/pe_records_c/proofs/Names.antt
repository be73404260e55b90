-- Exports by name beside their ordinals.
use Rattle.std.proofs.Common.{◌≡◌, ◌+◌, ◌-◌, ◌<◌, ℕ, suc, List, [], ◌∷◌, Option, None, Some, length, drop, get_or, min, refl, sym, ap, ◌∙◌, arith}
use Rattle.std.proofs.lemmas.List.{drop-drop}
use Rattle.std.proofs.lemmas.Slice.Zip.{length-zip, get_or-zip}
use Rattle.std.specs.List.{zip, filter_map, cons_option}
use Rattle.std.specs.Prelude.{map, option_map, nat_le, if◌then◌else◌}
use Rattle.pe_head.specs.declared.directory.Directory.{Directory}
use Rattle.pe_layout.specs.Image.{LaidOut}
use Rattle.pe_tables.specs.Exports.{exports_of, exports_at, table_at, target_of, entry, names_of, first_of_each}
use Rattle.pe_records_c.specs.ExportRows.{named}
use Rattle.pe_records_c.specs.Rows.{filled, Fills, TellsTable}
use Rattle.pe_records_c.proofs.Rows.{rows_filled, table_told}

-- what is shown of items beside others
shown_beside : {A B C : Type 0} (f : A → B) (xs : List A) (ys : List C) → map (λ (x : A × C). (f x.0, x.1)) (zip xs ys) ≡ zip (map f xs) ys
shown_beside f [] ys = refl
shown_beside f (x ∷ xs) [] = refl
shown_beside f (x ∷ xs) (y ∷ ys) = ap (λ (rest : List _). (f x, y) ∷ rest) (shown_beside f xs ys)

pub beside_filled : {A B C R W : Type 0} (view : R → W) (f : A → B) (row : B × C → W) (xs : List A) (ys : List C) (old new : List R)
    → Fills (λ x r. view r ≡ row (f x.0, x.1)) (zip xs ys) old new → map view new ≡ filled row (zip (map f xs) ys) (map view old)
beside_filled view f row xs ys old new fills =
    rows_filled view (λ x. (f x.0, x.1)) row (zip xs ys) old new fills ∙ ap (λ t. filled row t (map view old)) (shown_beside f xs ys)

pub beside_told : {A B C R W : Type 0} (view : R → W) (f : A → B) (row : B × C → W) (xs : List A) (ys : List C) (old new : List R) (count status : ℕ)
    → Fills (λ x r. view r ≡ row (f x.0, x.1)) (zip xs ys) old new → count ≡ length (zip xs ys) → status ≡ (if nat_le (length (zip xs ys)) (length old) then 0 else 4)
    → TellsTable view row (zip (map f xs) ys) old new count status
beside_told view f row xs ys old new count status fills counted answered =
    table_told view (λ x. (f x.0, x.1)) row (zip xs ys) (zip (map f xs) ys) old new count status (shown_beside f xs ys) fills counted answered

beside_one : {A B Y : Type 0} (o : Option Y) (a : Y → A) (b : Y → B) (xs : List A) (ys : List B) → length (zip xs ys) ≡ length xs
    → length (zip (cons_option (option_map a o) xs) (cons_option (option_map b o) ys)) ≡ length (cons_option (option_map a o) xs)
beside_one None a b xs ys same = same
beside_one (Some y) a b xs ys same = ap suc same

-- two lists that leave out the same items of one are as long
as_many : {X Y A B : Type 0} (f : X → Option Y) (a : X → Y → A) (b : X → Y → B) (xs : List X)
    → length (zip (filter_map (λ x. option_map (a x) (f x)) xs) (filter_map (λ x. option_map (b x) (f x)) xs)) ≡ length (filter_map (λ x. option_map (a x) (f x)) xs)
as_many f a b [] = refl
as_many f a b (x ∷ xs) = beside_one (f x) (a x) (b x) (filter_map (λ y. option_map (a y) (f y)) xs) (filter_map (λ y. option_map (b y) (f y)) xs) (as_many f a b xs)

in_table : (i : LaidOut) (d : Option Directory) → length (named (exports_at i d)) ≡ length (exports_at i d).names
in_table i None = refl
in_table i (Some d) =
    let t = table_at i d.rva in
    as_many (λ (n : List ℕ × ℕ). target_of i d (entry i t n.1)) (λ n target. (n.0, target)) (λ n target. t.ordinal_base + n.1) (first_of_each (names_of i t))

pub each_named : (i : LaidOut) → length (named (exports_of i)) ≡ length (exports_of i).names
each_named i = in_table i (i.directory 0)

-- rows that were filled one by one, from two lists
pub beside_fills : {A B C R W : Type 0} (view : R → W) (f : A → B) (row : B × C → W) (xs : List A) (ys : List C) (old new : List R) (i : ℕ)
    → i ≡ min (min (length new) (length xs)) (length ys) → length new ≡ length old
    → ((item : A × C) (q : R) (k : ℕ) → k < i → view (get_or new k q) ≡ row (f (get_or xs k item.0), get_or ys k item.1)) → drop i new ≡ drop i old
    → Fills (λ x r. view r ≡ row (f x.0, x.1)) (zip xs ys) old new
beside_fills view f row xs ys old new i is len told others =
    let all : length (zip xs ys) ≡ min (length xs) (length ys) = length-zip xs ys in
    let left : i + (length (zip xs ys) - i) ≡ length (zip xs ys) = omega (arith, is, all) in
    record {
      told = λ item q k a b. told item q k (omega (arith, is, all, a, b)) ∙ ap (λ x. row (f x.0, x.1)) (sym (get_or-zip xs ys k item (omega (arith, all, a)) (omega (arith, all, a))));
      len = len;
      others = ap (λ (n : ℕ). drop n new) (sym left) ∙ sym (drop-drop (length (zip xs ys) - i) i new) ∙ ap (drop (length (zip xs ys) - i)) others
          ∙ drop-drop (length (zip xs ys) - i) i old ∙ ap (λ (n : ℕ). drop n old) left;
    }
