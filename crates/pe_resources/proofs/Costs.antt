-- What a walk adds: directories that are apart, and a leaf for each 8 bytes of them at most.
use Rattle.std.proofs.Common.{◌≡◌, refl, ℕ, zero, suc, ◌+◌, ◌-◌, ◌*◌, ◌/◌, ◌≤◌, Bool, true, false, not, List, [], ◌∷◌, ◌++◌, length, Option, Some, sym, subst, length-append, arith}
use Rattle.std.specs.Prelude.{if◌then◌else◌}
use Rattle.std.proofs.Math.Nat.{mul-div-le, min-le_right}
use Rattle.std.proofs.lemmas.Bool.{leb-true, and_parts}
use Rattle.pe_view.specs.Faults.{Test}
use Rattle.pe_layout.specs.Image.{LaidOut}
use Rattle.pe_resources.specs.declared.entry.Entry.{Entry}
use Rattle.pe_resources.specs.declared.leaf.Leaf.{Leaf}
use Rattle.pe_resources.specs.declared.leaf.Path.{Path}
use Rattle.pe_resources.specs.Costs.{bytes_in, ApartAll, InsideAll}
use Rattle.pe_resources.specs.Entry.{is_directory, offset_of}
use Rattle.pe_resources.specs.Leaves.{leaf_at}
use Rattle.pe_resources.specs.Path.{named, no_path}
use Rattle.pe_resources.specs.Section.{is_held, entry_count, whole_count, entry_at, start_of}
use Rattle.pe_resources.specs.Walk.{Walk, nothing, asked, finding, name_tests, read_leaf, read_entry, read_entries, read_directory, directory_tests, whole_len, is_entered, entered, walk_from, walk_at, walk_of, leaves_of}
use Rattle.pe_resources.proofs.Sums.{bytes_few}

record IsSound (n : ℕ) (w : Walk) : Type 0 where
  pub apart : ApartAll w.before
  pub inside : InsideAll n w.before

-- from one walk to a later one, with so many leaves more than the directories between them pay for, 8 bytes each
record Adds (n : ℕ) (v w : Walk) (extra : ℕ) : Type 0 where
  pub sound : IsSound n v → IsSound n w
  pub few : 8 * length w.leaves + bytes_in v.before ≤ 8 * length v.leaves + bytes_in w.before + extra

asks : (n : ℕ) (w : Walk) (ts : List Test) → Adds n w (asked ts w) 0
asks n w ts = record { sound = λ s. record { apart = s.apart; inside = s.inside }; few = omega arith }

onward : (n : ℕ) (u v w : Walk) (a b : ℕ) → Adds n u v a → Adds n v w b → Adds n u w (a + b)
onward n u v w a b first second =
    let x = first.few in
    let y = second.few in
    record { sound = λ s. second.sound (first.sound s); few = omega (arith, x, y) }

wider : (n : ℕ) (v w : Walk) (a b : ℕ) → a ≤ b → Adds n v w a → Adds n v w b
wider n v w a b le adds = let x = adds.few in record { sound = adds.sound; few = omega (arith, le, x) }

leaf_few : (b : Bool) (leaf : Leaf) → length (if b then leaf ∷ [] else []) ≤ 1
leaf_few true leaf = omega arith
leaf_few false leaf = omega arith

leaf_adds : (i : LaidOut) (start below : ℕ) (path : Path) (offset : ℕ) (w : Walk) → Adds (i.raw_left start) w (read_leaf i start below path offset w) 8
leaf_adds i start below path offset w =
    let more : List Leaf = if is_held i start offset 16 then leaf_at i start path offset ∷ [] else [] in
    let one : length more ≤ 1 = leaf_few (is_held i start offset 16) (leaf_at i start path offset) in
    let all : length (w.leaves ++ more) ≡ length w.leaves + length more = length-append w.leaves more in
    record { sound = λ s. record { apart = s.apart; inside = s.inside }; few = omega (arith, one, all) }

by_entry : (n : ℕ) (b : Bool) (v x y : Walk) → Adds n v x 8 → Adds n v y 8 → Adds n v (if b then x else y) 8
by_entry n true v x y first second = first
by_entry n false v x y first second = second

entry_adds : (i : LaidOut) (start below : ℕ) (directory : Path → ℕ → Walk → Walk) (path : Path)
    → ((p : Path) (offset : ℕ) (w : Walk) → Adds (i.raw_left start) w (directory p offset w) 0)
    → (e : Entry) (w : Walk) → Adds (i.raw_left start) w (read_entry i start below directory path e w) 8
entry_adds i start below directory path adds e w =
    let n = i.raw_left start in
    let v = asked (name_tests i start e) w in
    let name = asks n w (name_tests i start e) in
    let p = named below e.name path in
    let o = offset_of e.target in
    by_entry n (is_directory e) w (directory p o v) (read_leaf i start below p o v)
    (wider n w (directory p o v) 0 8 (omega arith) (onward n w v (directory p o v) 0 0 name (adds p o v)))
    (onward n w v (read_leaf i start below p o v) 0 8 name (leaf_adds i start below p o v))

entries_add : (i : LaidOut) (start : ℕ) (entry : Entry → Walk → Walk) (offset count : ℕ) (w : Walk)
    → ((e : Entry) (v : Walk) → Adds (i.raw_left start) v (entry e v) 8)
    → Adds (i.raw_left start) w (read_entries i start entry offset count w) (8 * count)
entries_add i start entry offset zero w adds = record { sound = λ s. s; few = omega arith }
entries_add i start entry offset (suc count) w adds =
    let n = i.raw_left start in
    let v = read_entries i start entry offset count w in
    let last = entry (entry_at i start offset count) v in
    wider n w last (8 * count + 8) (8 * suc count) (omega arith)
    (onward n w v last (8 * count) 8 (entries_add i start entry offset count w adds) (adds (entry_at i start offset count) v))

-- a directory that is entered lies in the section
whole_inside : (i : LaidOut) (start offset : ℕ) → is_held i start offset 16 ≡ true → offset + whole_len i start offset ≤ i.raw_left start
whole_inside i start offset held =
    let some : offset + 16 ≤ i.raw_left start = leb-true _ _ held in
    let room : whole_count i start offset ≤ (i.raw_left start - offset - 16) / 8 = min-le_right (entry_count i start offset) ((i.raw_left start - offset - 16) / 8) in
    let all = mul-div-le (i.raw_left start - offset - 16) 8 in
    omega (arith, some, room, all)

negated : (b : Bool) → not b ≡ true → b ≡ false
negated false e = refl
negated true e = absurd cc

entered_sound : (i : LaidOut) (start offset : ℕ) (w : Walk) → is_entered i start w.before offset ≡ true → IsSound (i.raw_left start) w → IsSound (i.raw_left start) (entered i start offset w)
entered_sound i start offset w enters s =
    let p = and_parts _ _ enters in
    record { apart = (negated _ p.1, s.apart); inside = (whole_inside i start offset p.0, s.inside) }

by_enter : (n : ℕ) (b : Bool) (w x y : Walk) → (b ≡ true → Adds n w x 0) → Adds n w y 0 → Adds n w (if b then x else y) 0
by_enter n true w x y first second = first refl
by_enter n false w x y first second = second

directory_adds : (i : LaidOut) (start levels : ℕ) (path : Path) (offset : ℕ) (w : Walk) → Adds (i.raw_left start) w (read_directory i start levels path offset w) 0
directory_adds i start zero path offset w = asks (i.raw_left start) w (finding i start 187 offset true ∷ [])
directory_adds i start (suc below) path offset w =
    let n = i.raw_left start in
    let v = entered i start offset w in
    let entry = read_entry i start below (read_directory i start below) path in
    let last = read_entries i start entry offset (whole_count i start offset) v in
    by_enter n (is_entered i start w.before offset) w last (asked (directory_tests i start w.before offset) w)
    (λ enters.
    let all = entries_add i start entry offset (whole_count i start offset) v (entry_adds i start below (read_directory i start below) path (directory_adds i start below)) in
    let few = all.few in
    record { sound = λ s. all.sound (entered_sound i start offset w enters s); few = omega (arith, few) })
    (asks n w (directory_tests i start w.before offset))

none_sound : (n : ℕ) → IsSound n nothing
none_sound n = record { apart = tt; inside = tt }

by_root : (n : ℕ) (b : Bool) (x y : Walk) → Adds n nothing x 0 → Adds n nothing y 0 → Adds n nothing (if b then x else y) 0
by_root n true x y first second = first
by_root n false x y first second = second

from_adds : (i : LaidOut) (start : ℕ) → Adds (i.raw_left start) nothing (walk_from i start) 0
from_adds i start =
    let n = i.raw_left start in
    by_root n (is_held i start 0 16) (read_directory i start 3 no_path 0 nothing) (asked (finding i start 181 0 true ∷ []) nothing)
    (directory_adds i start 3 no_path 0 nothing) (asks n nothing (finding i start 181 0 true ∷ []))

tree_adds : (i : LaidOut) (start : ℕ) → start_of i ≡ Some start → Adds (i.raw_left start) nothing (walk_of i) 0
tree_adds i start present = subst (λ (o : Option ℕ). Adds (i.raw_left start) nothing (walk_at i o) 0) (sym present) (from_adds i start)

pub directories_apart : (i : LaidOut) (start : ℕ) → start_of i ≡ Some start → ApartAll (walk_of i).before
directories_apart i start present = ((tree_adds i start present).sound (none_sound (i.raw_left start))).apart

pub directories_few : (i : LaidOut) (start : ℕ) → start_of i ≡ Some start → bytes_in (walk_of i).before ≤ i.raw_left start
directories_few i start present =
    let s = (tree_adds i start present).sound (none_sound (i.raw_left start)) in
    bytes_few (i.raw_left start) (walk_of i).before s.apart s.inside

pub leaves_few : (i : LaidOut) (start : ℕ) → start_of i ≡ Some start → 8 * length (leaves_of i) ≤ i.raw_left start
leaves_few i start present =
    let bytes = directories_few i start present in
    let few = (tree_adds i start present).few in
    omega (arith, bytes, few)
