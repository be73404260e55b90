-- The symbols of an object's dump, by the records of the file's symbol table.
use Rattle.std.proofs.Common.{◌≡◌, ◌∙◌, ℕ, zero, suc, ◌+◌, ◌-◌, ◌*◌, ◌<◌, ◌≤◌, false, true, List, ◌∷◌, ◌++◌, length, take, drop, None, refl, sym, ap, append_assoc, arith, map}
use Rattle.std.specs.Prelude.{flat_map}
use Rattle.std.specs.List.{range_with_len}
use Rattle.std.proofs.lemmas.Bool.{ltb-false}
use Rattle.std.proofs.lemmas.List.{drop-drop, drop-take, take-take}
use Rattle.std.proofs.lemmas.List.Folds.{flat_map-map}
use Rattle.pe_view.specs.Faults.{first_standing}
use Rattle.pe_view.specs.FirstStanding.{none-append, none_stands}
use Rattle.pe_view.specs.Number.{part}
use Rattle.coff_read.specs.BigLeft.{indexed}
use Rattle.coff_read.specs.FormAuxiliary.{aux_of}
use Rattle.coff_read.specs.FormFaults.{object_tests, symbol_tests}
use Rattle.coff_read.specs.FormReading.{record_count, strings_start, object_of, record_start, aux_count, symbol_at, symbols_from, symbol_indexes}
use Rattle.coff_read.specs.FormRecords.{aux_records}
use Rattle.coff_read.specs.Forms.{Form, Plain, symbol_len}
use Rattle.coff_read.specs.ObjectFaults as plain_faults
use Rattle.coff_read.specs.Reading as plain
use Rattle.coff_read.specs.Records.{Object, Symbol}
use Rattle.coff_read.proofs.FormTable.{aux_inside, form_stands}
use Rattle.coff_read.proofs.PlainForm.{same_tests, same_object, same_symbols}
use Rattle.coff_lines.specs.ObjectLines.{symbol_line, aux_line, aux_lines, symbol_lines}
use Rattle.coff_lines.specs.ObjectPlaces.{aux_record_line, record_lines}

-- a symbol with the index of its record, and its auxiliary records
abbrev pub item_lines : Form → ℕ × Symbol → List ℕ
item_lines big item = symbol_line big item.0 item.1 ++ aux_lines big (item.0 + 1) item.1

-- bytes of a part of a file are bytes of the file
part_of_part : (file : List ℕ) (start total before more len at : ℕ) → total ≡ before + more → len ≤ more → start + before ≡ at → part (part file start total) before len ≡ part file at len
part_of_part file start total before more len at cut le is =
    ap (λ (n : ℕ). take len (drop before (take n (drop start file)))) cut
    ∙ ap (λ (bytes : List ℕ). take len bytes) (drop-take before more (drop start file))
    ∙ take-take len more _ le
    ∙ ap (λ (bytes : List ℕ). take len bytes) (drop-drop before start file ∙ ap (λ (n : ℕ). drop n file) is)

-- auxiliary record j of the symbol that record k begins is record k + 1 + j
aux_part : (big : Form) (file : List ℕ) (k j : ℕ) → j < aux_count big file k
    → part (symbol_at big file (record_start big file k)).aux (symbol_len big * j) (symbol_len big) ≡ part file (record_start big file (k + 1 + j)) (symbol_len big)
aux_part false file k j below =
    part_of_part file (record_start false file k + 18) (18 * aux_count false file k) (18 * j) (18 * (aux_count false file k - j)) 18 (record_start false file (k + 1 + j)) (omega arith) (omega arith) (omega arith)
aux_part true file k j below =
    part_of_part file (record_start true file k + 20) (20 * aux_count true file k) (20 * j) (20 * (aux_count true file k - j)) 20 (record_start true file (k + 1 + j)) (omega arith) (omega arith) (omega arith)

-- the same lines, numbered from one index and from another
numbered_alike : (f g : ℕ → List ℕ) (a b n : ℕ) → ((j : ℕ) → j < a + n → f j ≡ g (b + j)) → flat_map f (range_with_len a n) ≡ flat_map g (range_with_len (b + a) n)
numbered_alike f g a b zero e = refl
numbered_alike f g a b (suc n) e =
    let next : b + (a + 1) ≡ b + a + 1 = omega arith in
    let rest : flat_map f (range_with_len (a + 1) n) ≡ flat_map g (range_with_len (b + a + 1) n) = numbered_alike f g (a + 1) b n (λ j lt. e j (omega arith)) ∙ ap (λ (m : ℕ). flat_map g (range_with_len m n)) next in
    ap (λ (xs : List ℕ). xs ++ flat_map f (range_with_len (a + 1) n)) (e a (omega arith)) ∙ ap (λ (xs : List ℕ). g (b + a) ++ xs) rest

-- the auxiliary records of the symbol that record k begins
aux_shown : (big : Form) (file : List ℕ) (k : ℕ) → aux_records big (symbol_at big file (record_start big file k)) ≡ aux_count big file k
    → aux_lines big (k + 1) (symbol_at big file (record_start big file k)) ≡ flat_map (aux_record_line big file k) (range_with_len (k + 1) (aux_count big file k))
aux_shown big file k count =
    let s : Symbol = symbol_at big file (record_start big file k) in
    let line : ℕ → List ℕ = λ (j : ℕ). aux_line (k + 1 + j) (aux_of big s (part s.aux (symbol_len big * j) (symbol_len big))) in
    ap (λ (n : ℕ). flat_map line (range_with_len 0 n)) count
    ∙ numbered_alike line (aux_record_line big file k) 0 (k + 1) (aux_count big file k) (λ j below. ap (λ (bytes : List ℕ). aux_line (k + 1 + j) (aux_of big s bytes)) (aux_part big file k j (omega arith)))
    ∙ ap (λ (m : ℕ). flat_map (aux_record_line big file k) (range_with_len m (aux_count big file k))) (omega arith)

-- the lines of the symbols from record k on, after `skip` auxiliary records, with the auxiliary records of each
shown : (big : Form) (file : List ℕ) (lines : ℕ → List ℕ)
    → ((k : ℕ) → aux_records big (symbol_at big file (record_start big file k)) ≡ aux_count big file k → item_lines big (k, symbol_at big file (record_start big file k)) ≡ lines k)
    → (k left skip : ℕ) → skip ≤ left → k + left ≡ record_count big file → strings_start big file ≤ length file
    → first_standing (flat_map (symbol_tests big file) (symbols_from big file k left skip)) ≡ None
    → symbol_lines big (k + skip) (map (λ k. symbol_at big file (record_start big file k)) (symbols_from big file k left skip)) ≡ flat_map lines (symbols_from big file k left skip)
shown big file lines same k zero skip le end inside none = refl
shown big file lines same k (suc left) (suc skip) le end inside none =
    ap (λ (n : ℕ). symbol_lines big n (map (λ (i : ℕ). symbol_at big file (record_start big file i)) (symbols_from big file (k + 1) left skip))) (omega arith)
    ∙ shown big file lines same (k + 1) left skip (omega arith) (omega arith) inside none
shown big file lines same k (suc left) zero le end inside none =
    let z : ℕ = aux_count big file k in
    let s : Symbol = symbol_at big file (record_start big file k) in
    let behind : List ℕ = symbols_from big file (k + 1) left z in
    let symbols : List Symbol = map (λ (i : ℕ). symbol_at big file (record_start big file i)) behind in
    let parts = none-append (symbol_tests big file k) (flat_map (symbol_tests big file) behind) none in
    let within = ltb-false (record_count big file) (k + 1 + z) (none_stands (symbol_tests big file k) 1 _ parts.0 refl) in
    let count : aux_records big s ≡ z = aux_inside big file k inside within in
    let rest = shown big file lines same (k + 1) left z (omega (arith, within, end)) (omega (arith, end)) inside parts.1 in
    let next : k + (1 + aux_records big s) ≡ k + 1 + z = ap (λ (n : ℕ). k + (1 + n)) count ∙ omega arith in
    let here : k + 0 ≡ k = omega arith in
    ap (λ (n : ℕ). symbol_lines big n (s ∷ symbols)) here
    ∙ ap (λ (xs : List ℕ). symbol_line big k s ++ (aux_lines big (k + 1) s ++ xs)) (ap (λ (n : ℕ). symbol_lines big n symbols) next ∙ rest)
    ∙ sym (append_assoc (symbol_line big k s) (aux_lines big (k + 1) s) (flat_map lines behind))
    ∙ ap (λ (xs : List ℕ). xs ++ flat_map lines behind) (same k count)

-- the symbols of an accepted file
all_shown : (big : Form) (file : List ℕ) (lines : ℕ → List ℕ)
    → ((k : ℕ) → aux_records big (symbol_at big file (record_start big file k)) ≡ aux_count big file k → item_lines big (k, symbol_at big file (record_start big file k)) ≡ lines k)
    → first_standing (object_tests big file) ≡ None → symbol_lines big 0 (object_of big file).symbols ≡ flat_map lines (symbol_indexes big file)
all_shown big file lines same none =
    let table = form_stands big file none in
    shown big file lines same 0 (record_count big file) 0 (omega arith) (omega arith) table.inside table.symbols

pub records_shown : (big : Form) (file : List ℕ) → first_standing (object_tests big file) ≡ None → symbol_lines big 0 (object_of big file).symbols ≡ flat_map (record_lines big file) (symbol_indexes big file)
records_shown big file none =
    all_shown big file (record_lines big file) (λ k count. ap (λ (xs : List ℕ). symbol_line big k (symbol_at big file (record_start big file k)) ++ xs) (aux_shown big file k count)) none

-- the same of a plain object, by its own definitions
pub plain_records_shown : (file : List ℕ) → first_standing (plain_faults.object_tests file) ≡ None
    → symbol_lines Plain 0 (plain.object_of file).symbols ≡ flat_map (record_lines Plain file) (plain.symbol_indexes file)
plain_records_shown file none =
    ap (λ (o : Object). symbol_lines Plain 0 o.symbols) (sym (same_object file))
    ∙ records_shown Plain file (ap first_standing (same_tests file) ∙ none)
    ∙ ap (flat_map (record_lines Plain file)) (same_symbols file)

pub items_shown : (big : Form) (file : List ℕ) → first_standing (object_tests big file) ≡ None → flat_map (item_lines big) (indexed big file (symbol_indexes big file)) ≡ symbol_lines big 0 (object_of big file).symbols
items_shown big file none =
    flat_map-map (item_lines big) (λ (k : ℕ). (k, symbol_at big file (record_start big file k))) (symbol_indexes big file)
    ∙ sym (all_shown big file (λ k. item_lines big (k, symbol_at big file (record_start big file k))) (λ k count. refl) none)

-- one more symbol is written, with its auxiliary records
pub items-next : (big : Form) (item : ℕ × Symbol) (left more : List (ℕ × Symbol)) (written all : List ℕ) → left ≡ item ∷ more → written ++ flat_map (item_lines big) left ≡ all
    → ((written ++ symbol_line big item.0 item.1) ++ aux_lines big (item.0 + 1) item.1) ++ flat_map (item_lines big) more ≡ all
items-next big item left more written all is e =
    ap (λ (xs : List ℕ). xs ++ flat_map (item_lines big) more) (append_assoc written (symbol_line big item.0 item.1) (aux_lines big (item.0 + 1) item.1))
    ∙ append_assoc written (item_lines big item) (flat_map (item_lines big) more) ∙ ap (λ (items : List (ℕ × Symbol)). written ++ flat_map (item_lines big) items) (sym is) ∙ e
