use Rattle.std.proofs.Common.{◌≡◌, ◌∙◌, ◌≢◌, ℕ, List, Bool, arith, refl, sym, ap, take, true, false, None, Some, get_or, rules}
use Rattle.std.specs.List.{list_any}
use Rattle.std.proofs.lemmas.List.{take-map}
use borrow.Author.Tests.{ne_eqb}
use Rattle.pe_view.specs.declared.fault.Place.TheVariants.{Item}
use Rattle.pe_view.specs.Faults.{first_standing}
use Rattle.pe_set.specs.Set.{Entry, same_name}
use Rattle.pe_set.specs.SetView.{entry_view, entries_of}
use Rattle.pe_set.specs.SetFaults.{name_tests, names_tests}
use Rattle.pe_set.specs.declared.entry.SetEntry.{SetEntry}
use Rattle.pe_set.proofs.Asking.{next_item, asked_past, asked_in, asked_all}
use Rattle.pe_set.proofs.Defaults.{no_entry}
use Rattle.pe_set.proofs.names.check_names.Goals as goal

-- the tests of one entry, by what they find
tests_too_many : (es : List Entry) (i : ℕ) (e : Entry) → i ≡ 256 → first_standing (name_tests es i e) ≡ Some (record { number = 41; image = 256; place = Item 256 })
tests_too_many es i e at = rw at refl

tests_twice : (es : List Entry) (i : ℕ) (e : Entry) → i ≢ 256 → list_any (λ (before : Entry). same_name e.name before.name) (take i es) ≡ true
    → first_standing (name_tests es i e) ≡ Some (record { number = 42; image = i; place = Item i })
tests_twice es i e ne found = rw (ne_eqb i 256 ne, found) refl

tests_new : (es : List Entry) (i : ℕ) (e : Entry) → i ≢ 256 → list_any (λ (before : Entry). same_name e.name before.name) (take i es) ≡ false
    → first_standing (name_tests es i e) ≡ None
tests_new es i e ne found = rw (ne_eqb i 256 ne, found) refl

before_in : (set : List SetEntry) (i : ℕ) (test : Entry → Bool) (b : Bool) → list_any test (entries_of (take i set)) ≡ b → list_any test (take i (entries_of set)) ≡ b
before_in set i test b is = ap (list_any test) (take-map entry_view i set) ∙ is

pub returns-then-index-eq-IMAGE_LIMIT-clause-exact : goal.returns-then-index-eq-IMAGE_LIMIT-clause-exact
unfolding names_tests
returns-then-index-eq-IMAGE_LIMIT-clause-exact c =
    let set = c.args.set.now in
    let i : ℕ = c.loop-index.index in
    rw c.fault.ensures
    (asked_in entry_view (name_tests (entries_of set)) set i (get_or set i no_entry) (next_item set i no_entry c.loop-index-test.true) c.loop-index.invariant.rest _
    (tests_too_many (entries_of set) i (entry_view (get_or set i no_entry)) c.if-index-eq-IMAGE_LIMIT.true))

pub returns-then-has_name-clause-exact : goal.returns-then-has_name-clause-exact
unfolding names_tests
returns-then-has_name-clause-exact c =
    let set = c.args.set.now in
    let i : ℕ = c.loop-index.index in
    let e : Entry = entry_view (get_or set i no_entry) in
    rw c.fault-then-has_name.ensures
    (asked_in entry_view (name_tests (entries_of set)) set i (get_or set i no_entry) (next_item set i no_entry c.loop-index-test.true) c.loop-index.invariant.rest _
    (tests_twice (entries_of set) i e c.if-index-eq-IMAGE_LIMIT.false
    (before_in set i (λ (before : Entry). same_name e.name before.name) true (sym c.has_name.ensures ∙ c.if-has_name.true))))

pub loop-index-preserved : goal.loop-index-preserved
loop-index-preserved c =
    let set = c.args.set.now in
    let i : ℕ = c.loop-index.index in
    let e : Entry = entry_view (get_or set i no_entry) in
    let few = c.loop-index.invariant.few in
    let ne = c.if-index-eq-IMAGE_LIMIT.false in
    record {
      few = omega arith;
      rest = asked_past entry_view (name_tests (entries_of set)) set i (get_or set i no_entry) (next_item set i no_entry c.loop-index-test.true) c.loop-index.invariant.rest
          (tests_new (entries_of set) i e c.if-index-eq-IMAGE_LIMIT.false
          (before_in set i (λ (before : Entry). same_name e.name before.name) false (sym c.has_name.ensures ∙ c.if-has_name.false)));
    }

pub returns-clause-exact : goal.returns-clause-exact
unfolding names_tests
returns-clause-exact c = (asked_all entry_view (name_tests (entries_of c.args.set.now)) c.args.set.now c.loop-index.index c.loop-index-test.false c.loop-index.invariant.rest, tt)

pub returns-then-index-eq-IMAGE_LIMIT-clause-no_memory : goal.returns-then-index-eq-IMAGE_LIMIT-clause-no_memory
returns-then-index-eq-IMAGE_LIMIT-clause-no_memory c = search rules
