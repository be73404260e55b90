-- An image of which some bytes are not at hand: what exports read of it.
use Rattle.std.proofs.Common.{◌≡◌, ℕ, zero, suc, ◌+◌, ◌*◌, ◌<◌, ◌≤◌, Bool, true, false, cond, List, [], ◌∷◌, ◌++◌, Option, None, Some, refl, sym, ◌∙◌, ap, ap₂, subst, arith, inl, inr}
use Rattle.std.specs.Prelude.{◌==◌, ◌&&◌, not, nat_le, is_none, filter, option_map, option_and_then, if◌then◌else◌}
use Rattle.std.specs.List.{range_with_len, filter_map, flat_map, cons_option}
use Rattle.std.specs.Str.{bytes_eq}
use Rattle.std.proofs.lemmas.Bool.{cases_Bool, leb-false, eqb-true, eqb-false}
use Rattle.pe_view.specs.Faults.{Test, first_standing}
use Rattle.pe_view.specs.FirstStanding.{none-append}
use Rattle.pe_view.specs.declared.fault.Fault.{Fault}
use Rattle.pe_head.specs.declared.directory.Directory.{Directory}
use Rattle.pe_layout.specs.Image.{LaidOut, number_at, is_inside, fault_at}
use Rattle.pe_tables.specs.Key.{Target, Rva}
use Rattle.pe_tables.specs.Forwarder.{is_forwarder, forwarder_of}
use Rattle.pe_tables.specs.Exports.{table_at, entry, target_of, name_text, name_entry, by_entry, named, names_of, first_of_each, by_name, ordinal_of, exports_in, exports_at, exports_of}
use Rattle.pe_tables.specs.ExportFaults.{directory_tests, name_tests, value_tests, entry_tests, each_tests, table_tests, export_tests_at, export_tests}
use Rattle.pe_parts.specs.Filled.{filled, AreAt, HasExports, MayHaveExports}
use Rattle.pe_parts.proofs.ReadFixups.{number_at_agrees}

-- lists that are made number by number
flat_agrees : {A : Type 0} (p q : ℕ → List A) (start n : ℕ) → ((k : ℕ) → start ≤ k → k < start + n → p k ≡ q k) → flat_map p (range_with_len start n) ≡ flat_map q (range_with_len start n)
flat_agrees p q start zero same = refl
flat_agrees p q start (suc n) same = ap₂ (λ x y. x ++ y) (same start (omega arith) (omega arith)) (flat_agrees p q (start + 1) n (λ k le lt. same k (omega arith) (omega arith)))

filter_agrees : {A : Type 0} (p q : ℕ → Option A) (start n : ℕ) → ((k : ℕ) → start ≤ k → k < start + n → p k ≡ q k) → filter_map p (range_with_len start n) ≡ filter_map q (range_with_len start n)
filter_agrees p q start zero same = refl
filter_agrees p q start (suc n) same = ap₂ cons_option (same start (omega arith) (omega arith)) (filter_agrees p q (start + 1) n (λ k le lt. same k (omega arith) (omega arith)))

table_agrees : (i : LaidOut) (b : ℕ → ℕ) (t : ℕ → Option (List ℕ)) (w : ℕ → ℕ) (rva : ℕ) → AreAt i b rva (rva + 40) → table_at (filled i b t w) rva ≡ table_at i rva
table_agrees i b t w rva a =
    let n : (o : ℕ) → o + 4 ≤ 40 → number_at 4 (filled i b t w) (rva + o) ≡ number_at 4 i (rva + o) = λ o le. number_at_agrees i b t w rva (rva + 40) a 4 (rva + o) (omega arith) (omega arith) in
    λ j. record {
      rva = rva;
      ordinal_base = n 16 (omega arith) j;
      entry_count = n 20 (omega arith) j;
      name_count = n 24 (omega arith) j;
      addresses = n 28 (omega arith) j;
      names = n 32 (omega arith) j;
      ordinals = n 36 (omega arith) j;
    }

entry_agrees : (i : LaidOut) (b : ℕ → ℕ) (t : ℕ → Option (List ℕ)) (w : ℕ → ℕ) (d : Directory) → HasExports i b t d → (k : ℕ) → k < (table_at i d.rva).entry_count → entry (filled i b t w) (table_at i d.rva) k ≡ entry i (table_at i d.rva) k
entry_agrees i b t w d h k lt = let x = table_at i d.rva in number_at_agrees i b t w x.addresses (x.addresses + 4 * x.entry_count) h.addresses 4 (x.addresses + 4 * k) (omega arith) (omega arith)

name_text_agrees : (i : LaidOut) (b : ℕ → ℕ) (t : ℕ → Option (List ℕ)) (w : ℕ → ℕ) (d : Directory) → HasExports i b t d → (k : ℕ) → k < (table_at i d.rva).name_count → name_text (filled i b t w) (table_at i d.rva) k ≡ name_text i (table_at i d.rva) k
name_text_agrees i b t w d h k lt = let x = table_at i d.rva in
    ap t (number_at_agrees i b t w x.names (x.names + 4 * x.name_count) h.names 4 (x.names + 4 * k) (omega arith) (omega arith)) ∙ h.texts k lt

name_entry_agrees : (i : LaidOut) (b : ℕ → ℕ) (t : ℕ → Option (List ℕ)) (w : ℕ → ℕ) (d : Directory) → HasExports i b t d → (k : ℕ) → k < (table_at i d.rva).name_count → name_entry (filled i b t w) (table_at i d.rva) k ≡ name_entry i (table_at i d.rva) k
name_entry_agrees i b t w d h k lt = let x = table_at i d.rva in number_at_agrees i b t w x.ordinals (x.ordinals + 2 * x.name_count) h.ordinals 2 (x.ordinals + 2 * k) (omega arith) (omega arith)

-- what a value exports, and what is asked of it
target_agrees : (i : LaidOut) (b : ℕ → ℕ) (t : ℕ → Option (List ℕ)) (w : ℕ → ℕ) (d : Directory) → HasExports i b t d → (v : ℕ) → target_of (filled i b t w) d v ≡ target_of i d v
target_agrees i b t w d h v = elim (cases_Bool (is_forwarder d v)) [
  | inl e ↦ ap (λ o. if v == 0 then None else if is_forwarder d v then option_and_then forwarder_of o else Some (Rva v)) (h.forwarders v e)
  | inr e ↦ rw e refl
]

value_tests_agree : (i : LaidOut) (b : ℕ → ℕ) (t : ℕ → Option (List ℕ)) (w : ℕ → ℕ) (d : Directory) → HasExports i b t d → (rva v : ℕ) → value_tests (filled i b t w) d rva v ≡ value_tests i d rva v
value_tests_agree i b t w d h rva v = elim (cases_Bool (is_forwarder d v)) [
  | inl e ↦ ap (λ o. record { stands = not (v == 0) && (not (is_forwarder d v) && not (is_inside i v 1)); fault = fault_at 21 i rva }
      ∷ record { stands = not (v == 0) && (is_forwarder d v && is_none (option_and_then forwarder_of o)); fault = fault_at 22 i rva } ∷ []) (h.forwarders v e)
  | inr e ↦ rw e refl
]

table_tests_agree : (i : LaidOut) (b : ℕ → ℕ) (t : ℕ → Option (List ℕ)) (w : ℕ → ℕ) (d : Directory) → HasExports i b t d → table_tests (filled i b t w) d (table_at i d.rva) ≡ table_tests i d (table_at i d.rva)
unfolding each_tests
table_tests_agree i b t w d h =
    let x = table_at i d.rva in
    let ns = flat_agrees (name_tests (filled i b t w) x) (name_tests i x) 0 x.name_count (λ k le lt.
    ap₂ (λ o n. record { stands = is_none o; fault = fault_at 19 i (x.names + 4 * k) } ∷ record { stands = nat_le x.entry_count n; fault = fault_at 20 i (x.ordinals + 2 * k) } ∷ [])
    (name_text_agrees i b t w d h k (omega arith)) (name_entry_agrees i b t w d h k (omega arith))) in
    let es = flat_agrees (entry_tests (filled i b t w) d x) (entry_tests i d x) 0 x.entry_count (λ k le lt.
    ap (λ v. value_tests (filled i b t w) d (x.addresses + 4 * k) v) (entry_agrees i b t w d h k (omega arith)) ∙ value_tests_agree i b t w d h (x.addresses + 4 * k) (entry i x k)) in
    ap₂ (λ n e. directory_tests i x ++ (n ++ e)) ns es

export_tests_at_agree : (i : LaidOut) (b : ℕ → ℕ) (t : ℕ → Option (List ℕ)) (w : ℕ → ℕ) (d : Option Directory) → MayHaveExports i b t d → export_tests_at (filled i b t w) d ≡ export_tests_at i d
export_tests_at_agree i b t w None h = refl
export_tests_at_agree i b t w (Some d) h = ap (table_tests (filled i b t w) d) (table_agrees i b t w d.rva h.table) ∙ table_tests_agree i b t w d h

pub export_tests_agree : (i : LaidOut) (b : ℕ → ℕ) (t : ℕ → Option (List ℕ)) (w : ℕ → ℕ) → MayHaveExports i b t (i.directory 0) → export_tests (filled i b t w) ≡ export_tests i
export_tests_agree i b t w h = export_tests_at_agree i b t w (i.directory 0) h

-- names whose entries are among the first n
abbrev Among : ℕ → List (List ℕ × ℕ) → Type 0
Among n [] = Unit {0}
Among n (m ∷ ms) = (m.1 < n) × Among n ms

among_kept : (n : ℕ) (keep : Bool) (m : List ℕ × ℕ) (ms : List (List ℕ × ℕ)) → m.1 < n → Among n ms → Among n (cond keep (m ∷ ms) ms)
among_kept n true m ms lt all = (lt, all)
among_kept n false m ms lt all = all

among_filter : (n : ℕ) (p : List ℕ × ℕ → Bool) (ms : List (List ℕ × ℕ)) → Among n ms → Among n (filter p ms)
among_filter n p [] all = tt
among_filter n p (m ∷ ms) all = among_kept n (p m) m (filter p ms) all.0 (among_filter n p ms all.1)

among_first : (n : ℕ) (ms : List (List ℕ × ℕ)) → Among n ms → Among n (first_of_each ms)
among_first n [] all = tt
among_first n (m ∷ ms) all = (all.0, among_filter n (λ x. not (bytes_eq m.0 x.0)) (first_of_each ms) (among_first n ms all.1))

among_cons : (n e : ℕ) (text : Option (List ℕ)) (ms : List (List ℕ × ℕ)) → e < n → Among n ms → Among n (cons_option (option_map (λ (x : List ℕ). (x, e)) text) ms)
among_cons n e None ms lt all = all
among_cons n e (Some x) ms lt all = (lt, all)

among_names : (i : LaidOut) (rva n start count : ℕ) → ((k : ℕ) → start ≤ k → k < start + count → name_entry i (table_at i rva) k < n) → Among n (filter_map (named i (table_at i rva)) (range_with_len start count))
among_names i rva n start zero below = tt
among_names i rva n start (suc count) below =
    among_cons n (name_entry i (table_at i rva) start) (name_text i (table_at i rva) start) (filter_map (named i (table_at i rva)) (range_with_len (start + 1) count)) (below start (omega arith) (omega arith))
    (among_names i rva n (start + 1) count (λ k le lt. below k (omega arith) (omega arith)))

filter_among : {A : Type 0} (n : ℕ) (p q : List ℕ × ℕ → Option A) (ms : List (List ℕ × ℕ)) → Among n ms → ((m : List ℕ × ℕ) → m.1 < n → p m ≡ q m) → filter_map p ms ≡ filter_map q ms
filter_among n p q [] all same = refl
filter_among n p q (m ∷ ms) all same = ap₂ cons_option (same m all.0) (filter_among n p q ms all.1 same)

-- where no test of numbered lists stands, none of each does
each_none : (f : ℕ → List Test) (start n : ℕ) → first_standing (flat_map f (range_with_len start n)) ≡ None → (k : ℕ) → start ≤ k → k < start + n → first_standing (f k) ≡ None
each_none f start zero none k le lt = absurd (omega arith)
each_none f start (suc n) none k le lt =
    let parts = none-append (f start) (flat_map f (range_with_len (start + 1) n)) none in
    elim (cases_Bool (k == start)) [
      | inl e ↦ subst (λ j. first_standing (f j) ≡ None) (sym (eqb-true k start e)) parts.0
      | inr e ↦ each_none f (start + 1) n parts.1 k (omega (arith, eqb-false k start e)) (omega arith)
    ]

second_false : (a b : Bool) (x y : Fault) → cond a (Some x) (cond b (Some y) None) ≡ None → b ≡ false
second_false true b x y none = absurd cc
second_false false true x y none = absurd cc
second_false false false x y none = refl

-- the entries of names without fault 20
entries_below : (i : LaidOut) (d : Directory) → first_standing (table_tests i d (table_at i d.rva)) ≡ None → (k : ℕ) → 0 ≤ k → k < 0 + (table_at i d.rva).name_count → name_entry i (table_at i d.rva) k < (table_at i d.rva).entry_count
unfolding each_tests
entries_below i d none k le lt =
    let x = table_at i d.rva in
    let behind = none-append (directory_tests i x) (each_tests (name_tests i x) x.name_count ++ each_tests (entry_tests i d x) x.entry_count) none in
    let names = none-append (each_tests (name_tests i x) x.name_count) (each_tests (entry_tests i d x) x.entry_count) behind.1 in
    let one = each_none (name_tests i x) 0 x.name_count names.0 k le lt in
    omega (arith, leb-false x.entry_count (name_entry i x k) (second_false (is_none (name_text i x k)) (nat_le x.entry_count (name_entry i x k)) (fault_at 19 i (x.names + 4 * k)) (fault_at 20 i (x.ordinals + 2 * k)) one))

exports_in_agree : (i : LaidOut) (b : ℕ → ℕ) (t : ℕ → Option (List ℕ)) (w : ℕ → ℕ) (d : Directory) → HasExports i b t d → first_standing (table_tests i d (table_at i d.rva)) ≡ None → exports_in (filled i b t w) d (table_at i d.rva) ≡ exports_in i d (table_at i d.rva)
exports_in_agree i b t w d h none =
    let x = table_at i d.rva in
    let f = filled i b t w in
    let target : (k : ℕ) → k < x.entry_count → target_of f d (entry f x k) ≡ target_of i d (entry i x k) =
    λ k lt. ap (target_of f d) (entry_agrees i b t w d h k lt) ∙ target_agrees i b t w d h (entry i x k) in
    let ordinals : filter_map (by_entry f d x) (range_with_len 0 x.entry_count) ≡ filter_map (by_entry i d x) (range_with_len 0 x.entry_count) =
    filter_agrees (by_entry f d x) (by_entry i d x) 0 x.entry_count (λ k le lt. ap (λ o. option_map (λ (y : Target). (x.ordinal_base + k, y)) o) (target k (omega arith))) in
    let names : names_of f x ≡ names_of i x =
    filter_agrees (named f x) (named i x) 0 x.name_count (λ k le lt. ap₂ (λ o e. option_map (λ (y : List ℕ). (y, e)) o) (name_text_agrees i b t w d h k (omega arith)) (name_entry_agrees i b t w d h k (omega arith))) in
    let all : Among x.entry_count (first_of_each (names_of i x)) = among_first x.entry_count (names_of i x) (among_names i d.rva x.entry_count 0 x.name_count (entries_below i d none)) in
    let by_names : filter_map (by_name f d x) (first_of_each (names_of f x)) ≡ filter_map (by_name i d x) (first_of_each (names_of i x)) =
    ap (λ ms. filter_map (by_name f d x) (first_of_each ms)) names
    ∙ filter_among x.entry_count (by_name f d x) (by_name i d x) (first_of_each (names_of i x)) all (λ m lt. ap (λ o. option_map (λ (y : Target). (m.0, y)) o) (target m.1 lt)) in
    let by_ordinals : filter_map (ordinal_of f d x) (first_of_each (names_of f x)) ≡ filter_map (ordinal_of i d x) (first_of_each (names_of i x)) =
    ap (λ ms. filter_map (ordinal_of f d x) (first_of_each ms)) names
    ∙ filter_among x.entry_count (ordinal_of f d x) (ordinal_of i d x) (first_of_each (names_of i x)) all (λ m lt. ap (λ o. option_map (λ (y : Target). x.ordinal_base + m.1) o) (target m.1 lt)) in
    λ j. record { ordinals = ordinals j; names = by_names j; name_ordinals = by_ordinals j }

exports_at_agree : (i : LaidOut) (b : ℕ → ℕ) (t : ℕ → Option (List ℕ)) (w : ℕ → ℕ) (d : Option Directory) → MayHaveExports i b t d → first_standing (export_tests_at i d) ≡ None → exports_at (filled i b t w) d ≡ exports_at i d
exports_at_agree i b t w None h none = refl
exports_at_agree i b t w (Some d) h none = ap (exports_in (filled i b t w) d) (table_agrees i b t w d.rva h.table) ∙ exports_in_agree i b t w d h none

pub exports_agree : (i : LaidOut) (b : ℕ → ℕ) (t : ℕ → Option (List ℕ)) (w : ℕ → ℕ) → MayHaveExports i b t (i.directory 0) → first_standing (export_tests i) ≡ None → exports_of (filled i b t w) ≡ exports_of i
exports_agree i b t w h none = exports_at_agree i b t w (i.directory 0) h none
