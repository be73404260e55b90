-- A walk in which no directory is shared finds the leaves that steps by level lead to.
use Rattle.std.proofs.Common.{◌≡◌, ◌∙◌, refl, ℕ, zero, suc, ◌+◌, ◌*◌, Bool, true, false, not, ◌&&◌, List, [], ◌∷◌, ◌++◌, Option, Some, None, ap, sym, subst, append_assoc, append-nil, zero-add, arith}
use Rattle.std.specs.Prelude.{if◌then◌else◌, map}
use Rattle.std.specs.List.{flat_map, range_with_len}
use Rattle.pe_view.specs.Faults.{Test}
use Rattle.pe_layout.specs.Image.{LaidOut}
use Rattle.pe_resources.specs.declared.entry.Entry.{Entry}
use Rattle.pe_resources.specs.declared.leaf.Leaf.{Leaf}
use Rattle.pe_resources.specs.declared.leaf.Path.{Path}
use Rattle.pe_resources.specs.Entry.{is_directory, offset_of}
use Rattle.pe_resources.specs.Leaves.{leaf_at}
use Rattle.pe_resources.specs.Path.{named, no_path}
use Rattle.pe_resources.specs.Plain.{entry_leaves, directory_leaves, plain_from, plain_at, plain_leaves, NoneShared}
use Rattle.pe_resources.specs.Section.{is_held, entry_count, whole_count, entry_at, entries_at, start_of}
use Rattle.pe_resources.specs.Walk.{Walk, nothing, asked, finding, name_tests, leaf_tests, read_leaf, read_entry, read_entries, read_directory, directory_tests, order_tests, is_shared, is_entered, entered, walk_from, walk_at, leaves_of, resource_tests}

-- if nothing is shared in the later walk, nothing was in the earlier, and these are the leaves between them
record Lists (v w : Walk) (more : List Leaf) : Type 0 where
  pub none : NoneShared w.tests → NoneShared v.tests
  pub leaves : NoneShared w.tests → w.leaves ≡ v.leaves ++ more

front : (xs ys : List Test) → NoneShared (xs ++ ys) → NoneShared xs
front [] ys none = tt
front (t ∷ ts) ys none = (none.0, front ts ys none.1)

back : (xs ys : List Test) → NoneShared (xs ++ ys) → NoneShared ys
back [] ys none = none
back (t ∷ ts) ys none = back ts ys none.1

onward : (u v w : Walk) (xs ys : List Leaf) → Lists u v xs → Lists v w ys → Lists u w (xs ++ ys)
onward u v w xs ys first second = record {
  none = λ n. first.none (second.none n);
  leaves = λ n. second.leaves n ∙ ap (λ (ls : List Leaf). ls ++ ys) (first.leaves (second.none n)) ∙ append_assoc u.leaves xs ys;
}

asks : (w : Walk) (ts : List Test) → Lists w (asked ts w) []
asks w ts = record { none = λ n. front w.tests ts n; leaves = λ n. sym (append-nil w.leaves) }

leaf_lists : (i : LaidOut) (start below : ℕ) (path : Path) (offset : ℕ) (w : Walk) → Lists w (read_leaf i start below path offset w) (if is_held i start offset 16 then leaf_at i start path offset ∷ [] else [])
leaf_lists i start below path offset w = record { none = λ n. front w.tests (leaf_tests i start below (leaf_at i start path offset) offset) n; leaves = λ n. refl }

by_entry : (b : Bool) (v x y : Walk) (xs ys : List Leaf) → Lists v x xs → Lists v y ys → Lists v (if b then x else y) (if b then xs else ys)
by_entry true v x y xs ys first second = first
by_entry false v x y xs ys first second = second

entry_lists : (i : LaidOut) (start below : ℕ) (directory : Path → ℕ → Walk → Walk) (leaves : Path → ℕ → List Leaf) (path : Path)
    → ((p : Path) (offset : ℕ) (w : Walk) → Lists w (directory p offset w) (leaves p offset))
    → (e : Entry) (w : Walk) → Lists w (read_entry i start below directory path e w) (entry_leaves i start below leaves path e)
entry_lists i start below directory leaves path lists e w =
    let v = asked (name_tests i start e) w in
    let name = asks w (name_tests i start e) in
    let p = named below e.name path in
    let o = offset_of e.target in
    let own : List Leaf = if is_held i start o 16 then leaf_at i start p o ∷ [] else [] in
    by_entry (is_directory e) w (directory p o v) (read_leaf i start below p o v) (leaves p o) own
    (onward w v (directory p o v) [] (leaves p o) name (lists p o v))
    (onward w v (read_leaf i start below p o v) [] own name (leaf_lists i start below p o v))

range_more : (a n : ℕ) → range_with_len a (suc n) ≡ range_with_len a n ++ (a + n) ∷ []
range_more a zero = let same : a ≡ a + 0 = omega arith in ap (λ (k : ℕ). k ∷ []) same
range_more a (suc n) =
    let same : a + 1 + n ≡ a + suc n = omega arith in
    ap (λ (ks : List ℕ). a ∷ ks) (range_more (a + 1) n ∙ ap (λ (k : ℕ). range_with_len (a + 1) n ++ k ∷ []) same)

flat_snoc : {X : Type 0} (f : X → List Leaf) (xs : List X) (x : X) → flat_map f (xs ++ x ∷ []) ≡ flat_map f xs ++ f x
flat_snoc f [] x = append-nil (f x)
flat_snoc f (y ∷ ys) x = ap (λ (ls : List Leaf). f y ++ ls) (flat_snoc f ys x) ∙ sym (append_assoc (f y) (flat_map f ys) (f x))

map_snoc : (f : ℕ → Entry) (ks : List ℕ) (k : ℕ) → map f (ks ++ k ∷ []) ≡ map f ks ++ f k ∷ []
map_snoc f [] k = refl
map_snoc f (j ∷ ks) k = ap (λ (es : List Entry). f j ∷ es) (map_snoc f ks k)

-- one entry more
entries_more : (i : LaidOut) (start offset count : ℕ) (f : Entry → List Leaf) → flat_map f (entries_at i start offset (suc count)) ≡ flat_map f (entries_at i start offset count) ++ f (entry_at i start offset count)
entries_more i start offset count f =
    ap (λ (ks : List ℕ). flat_map f (map (entry_at i start offset) ks)) (range_more 0 count ∙ ap (λ (k : ℕ). range_with_len 0 count ++ k ∷ []) (zero-add count))
    ∙ ap (flat_map f) (map_snoc (entry_at i start offset) (range_with_len 0 count) count)
    ∙ flat_snoc f (entries_at i start offset count) (entry_at i start offset count)

entries_list : (i : LaidOut) (start : ℕ) (entry : Entry → Walk → Walk) (f : Entry → List Leaf) (offset count : ℕ) (w : Walk)
    → ((e : Entry) (v : Walk) → Lists v (entry e v) (f e))
    → Lists w (read_entries i start entry offset count w) (flat_map f (entries_at i start offset count))
entries_list i start entry f offset zero w lists = record { none = λ n. n; leaves = λ n. sym (append-nil w.leaves) }
entries_list i start entry f offset (suc count) w lists =
    let v = read_entries i start entry offset count w in
    let e = entry_at i start offset count in
    subst (λ (ls : List Leaf). Lists w (entry e v) ls) (sym (entries_more i start offset count f))
    (onward w v (entry e v) (flat_map f (entries_at i start offset count)) (f e) (entries_list i start entry f offset count w lists) (lists e v))

-- a directory that is held, and is not entered, is shared
not_shared : (i : LaidOut) (start offset : ℕ) (held shared whole : Bool) (ts : List Test) → (held && not shared) ≡ false → NoneShared (if held then finding i start 182 offset whole ∷ finding i start 185 offset shared ∷ [] else ts) → held ≡ false
not_shared i start offset true true whole ts e none = let stands : true ≡ false = none.1.0 refl in absurd cc
not_shared i start offset true false whole ts e none = absurd cc
not_shared i start offset false shared whole ts e none = refl

by_enter : (b held : Bool) (w x y : Walk) (xs : List Leaf) → (b ≡ true → held ≡ true) → (b ≡ true → Lists w x xs) → (b ≡ false → NoneShared y.tests → held ≡ false) → Lists w y [] → Lists w (if b then x else y) (if held then xs else [])
by_enter true true w x y xs enters first shared second = first refl
by_enter true false w x y xs enters first shared second = let e = enters refl in absurd cc
by_enter false true w x y xs enters first shared second = record { none = second.none; leaves = λ n. let e = shared refl n in absurd cc }
by_enter false false w x y xs enters first shared second = second

held_where : (held shared : Bool) → (held && not shared) ≡ true → held ≡ true
held_where true shared e = refl
held_where false shared e = absurd cc

directory_lists : (i : LaidOut) (start levels : ℕ) (path : Path) (offset : ℕ) (w : Walk) → Lists w (read_directory i start levels path offset w) (directory_leaves i start levels path offset)
directory_lists i start zero path offset w = asks w (finding i start 187 offset true ∷ [])
directory_lists i start (suc below) path offset w =
    let v = entered i start offset w in
    let f = entry_leaves i start below (directory_leaves i start below) path in
    let entry = read_entry i start below (read_directory i start below) path in
    let held = is_held i start offset 16 in
    let shared = is_shared i start w.before offset in
    let count = whole_count i start offset in
    let all = entries_list i start entry f offset count v (entry_lists i start below (read_directory i start below) (directory_leaves i start below) path (directory_lists i start below)) in
    by_enter (is_entered i start w.before offset) held w (read_entries i start entry offset count v) (asked (directory_tests i start w.before offset) w) (flat_map f (entries_at i start offset count))
    (held_where held shared)
    (λ e. record { none = λ n. front w.tests (directory_tests i start w.before offset) (front (w.tests ++ directory_tests i start w.before offset) (order_tests i start offset) (all.none n)); leaves = λ n. all.leaves n })
    (λ e n. not_shared i start offset held shared (not (is_held i start offset (16 + 8 * entry_count i start offset))) (finding i start 182 offset true ∷ []) e (back w.tests (directory_tests i start w.before offset) n))
    (asks w (directory_tests i start w.before offset))

from_lists : (i : LaidOut) (start : ℕ) → Lists nothing (walk_from i start) (plain_from i start)
from_lists i start =
    by_entry (is_held i start 0 16) nothing (read_directory i start 3 no_path 0 nothing) (asked (finding i start 181 0 true ∷ []) nothing) (directory_leaves i start 3 no_path 0) []
    (directory_lists i start 3 no_path 0 nothing) (asks nothing (finding i start 181 0 true ∷ []))

at_lists : (i : LaidOut) (o : Option ℕ) → Lists nothing (walk_at i o) (plain_at i o)
at_lists i None = record { none = λ n. n; leaves = λ n. refl }
at_lists i (Some start) = from_lists i start

pub leaves_plain : (i : LaidOut) → NoneShared (resource_tests i) → leaves_of i ≡ plain_leaves i
leaves_plain i none = (at_lists i (start_of i)).leaves none
