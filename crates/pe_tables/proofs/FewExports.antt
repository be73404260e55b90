-- How many exports an image without a fault of its export table has.
use Rattle.std.proofs.Common.{◌≡◌, ◌≤◌, ℕ, suc, Bool, true, false, cond, List, [], ◌∷◌, ◌++◌, length, Option, None, Some, refl, arith}
use Rattle.std.specs.Prelude.{not, filter}
use Rattle.std.specs.List.{range_with_len}
use Rattle.std.specs.Str.{bytes_eq}
use Rattle.std.proofs.lemmas.Bool.{ltb-false}
use Rattle.std.proofs.lemmas.List.FromFn.{length-range_with_len}
use Rattle.pe_view.specs.Faults.{first_standing}
use Rattle.pe_view.specs.FirstStanding.{none-append, none_stands}
use Rattle.pe_head.specs.declared.directory.Directory.{Directory}
use Rattle.pe_layout.specs.Image.{LaidOut}
use Rattle.pe_tables.specs.Exports.{table_at, by_entry, by_name, named, names_of, first_of_each, exports_at, exports_of}
use Rattle.pe_tables.specs.ExportFaults.{directory_tests, name_tests, entry_tests, each_tests, export_tests, export_tests_at}
use Rattle.pe_tables.proofs.Counts.{length-filter_map}

kept : {X : Type 0} (b : Bool) (x : X) (front : List X) (n : ℕ) → length front ≤ n → length (cond b (x ∷ front) front) ≤ suc n
kept true x front n few = omega (arith, few)
kept false x front n few = omega (arith, few)

few_kept : {X : Type 0} (test : X → Bool) (xs : List X) → length (filter test xs) ≤ length xs
few_kept test [] = omega arith
few_kept test (x ∷ xs) = kept (test x) x (filter test xs) (length xs) (few_kept test xs)

few_first : (ns : List (List ℕ × ℕ)) → length (first_of_each ns) ≤ length ns
few_first [] = omega arith
few_first (n ∷ ns) =
    let rest = few_kept (λ m. not (bytes_eq n.0 m.0)) (first_of_each ns) in
    let more = few_first ns in
    omega (arith, rest, more)

abbrev AreFew : LaidOut → Option Directory → Type 0
AreFew i d = (length (exports_at i d).ordinals ≤ 65536) × (length (exports_at i d).names ≤ 65536)

table_few : (i : LaidOut) (d : Option Directory) → first_standing (export_tests_at i d) ≡ None → AreFew i d
table_few i None none = (omega arith, omega arith)
table_few i (Some d) none =
    let t = table_at i d.rva in
    let own = (none-append (directory_tests i t) (each_tests (name_tests i t) t.name_count ++ each_tests (entry_tests i d t) t.entry_count) none).0 in
    let few_entries = ltb-false 65536 t.entry_count (none_stands (directory_tests i t) 4 _ own refl) in
    let few_names = ltb-false 65536 t.name_count (none_stands (directory_tests i t) 5 _ own refl) in
    let entries = length-range_with_len 0 t.entry_count in
    let ordinals = length-filter_map (by_entry i d t) (range_with_len 0 t.entry_count) in
    let numbers = length-range_with_len 0 t.name_count in
    let texts = length-filter_map (named i t) (range_with_len 0 t.name_count) in
    let firsts = few_first (names_of i t) in
    let names = length-filter_map (by_name i d t) (first_of_each (names_of i t)) in
    (omega (arith, few_entries, entries, ordinals), omega (arith, few_names, numbers, texts, firsts, names))

pub few_ordinals : (i : LaidOut) → first_standing (export_tests i) ≡ None → length (exports_of i).ordinals ≤ 65536
few_ordinals i none = (table_few i (i.directory 0) none).0

pub few_names : (i : LaidOut) → first_standing (export_tests i) ≡ None → length (exports_of i).names ≤ 65536
few_names i none = (table_few i (i.directory 0) none).1
