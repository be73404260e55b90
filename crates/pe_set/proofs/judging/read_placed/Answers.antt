-- Each class is tested after classes without a fault.
use Rattle.std.proofs.Common.{◌≡◌, ◌∙◌, ◌++◌, List, ap, subst, sym, arith, inl, inr, None}
use Rattle.std.proofs.lemmas.Result.{err_from_is_err_and}
use Rattle.pe_view.specs.Faults.{first_standing}
use Rattle.pe_view.specs.FirstStanding.{first-past}
use Rattle.pe_set.specs.Set.{Module, modules_of}
use Rattle.pe_set.specs.SetFaults.{RefusesClass, names_tests, files_tests, places_tests}
use Rattle.pe_set.specs.SetView.{entries_of, modules_view}
use Rattle.pe_set.proofs.Classes.{few_images, count_modules}
use Rattle.pe_set.proofs.Distinct.{few_entries}
use Rattle.pe_set.proofs.Errors.{first_of, later_of}
use Rattle.pe_set.proofs.judging.read_placed.Goals as goal

pub returns-in_err-check_names-clause-exact : goal.returns-in_err-check_names-clause-exact
returns-in_err-check_names-clause-exact g c =
    let es = entries_of c.args.set.now in
    let p = err_from_is_err_and c.from_residual.result c.from_residual.ensures.1 in
    rw (p.1, p.2) (first_of (names_tests es) (files_tests es ++ places_tests (modules_of es)) c.in_err-check_names.field-0.0 c.in_err-check_names.ensures.exact)

pub read_modules-requires : goal.read_modules-requires
read_modules-requires g c = few_images c.args.set.now (few_entries (entries_of c.args.set.now) c.in_ok-check_names.ensures.exact.0)

pub returns-in_err-modules-clause-exact : goal.returns-in_err-modules-clause-exact
returns-in_err-modules-clause-exact g c =
    let es = entries_of c.args.set.now in
    let p = err_from_is_err_and c.from_residual-in_err-modules.result c.from_residual-in_err-modules.ensures.1 in
    let error = c.in_err-modules.field-0.0 in
    rw (p.1, p.2)
    (later_of (names_tests es) (files_tests es ++ places_tests (modules_of es)) error c.in_ok-check_names.ensures.exact.0
    (first_of (files_tests es) (places_tests (modules_of es)) error c.in_err-modules.ensures.exact))

pub check_places-requires : goal.check_places-requires
check_places-requires g c =
    let few = few_images c.args.set.now (few_entries (entries_of c.args.set.now) c.in_ok-check_names.ensures.exact.0) in
    let count = count_modules c.args.set.now c.in_ok-modules.modules.items c.in_ok-modules.ensures.exact.1 in
    rw c.deref.ensures.value (omega arith)

pub returns-in_err-check_places-clause-exact : goal.returns-in_err-check_places-clause-exact
returns-in_err-check_places-clause-exact g c =
    let es = entries_of c.args.set.now in
    let p = err_from_is_err_and c.from_residual-in_err-check_places.result c.from_residual-in_err-check_places.ensures.1 in
    let error = c.in_err-check_places.field-0.0 in
    let is = ap modules_view c.deref.ensures.value ∙ c.in_ok-modules.ensures.exact.1 in
    let refused = subst (λ (s : List Module). RefusesClass (places_tests s) error) is c.in_err-check_places.ensures.exact in
    rw (p.1, p.2)
    (later_of (names_tests es) (files_tests es ++ places_tests (modules_of es)) error c.in_ok-check_names.ensures.exact.0
    (later_of (files_tests es) (places_tests (modules_of es)) error c.in_ok-modules.ensures.exact.0 refused))

pub returns-clause-exact : goal.returns-clause-exact
returns-clause-exact g c =
    let es = entries_of c.args.set.now in
    let is = ap modules_view c.deref.ensures.value ∙ c.in_ok-modules.ensures.exact.1 in
    let none = subst (λ (s : List Module). first_standing (places_tests s) ≡ None) is c.in_ok-check_places.ensures.exact.0 in (
      first-past (names_tests es) (files_tests es ++ places_tests (modules_of es)) c.in_ok-check_names.ensures.exact.0
          ∙ first-past (files_tests es) (places_tests (modules_of es)) c.in_ok-modules.ensures.exact.0
          ∙ none,
      c.in_ok-modules.ensures.exact.1,
    )

pub returns-in_err-check_names-clause-named : goal.returns-in_err-check_names-clause-named
returns-in_err-check_names-clause-named g c = λ refused.
    let p = err_from_is_err_and c.from_residual.result c.from_residual.ensures.1 in
    let kept = c.in_err-check_names.ensures.no_memory in
    let is = rw (p.1, p.2) at refused in
    absurd (kept (cc))

pub returns-in_err-modules-clause-named : goal.returns-in_err-modules-clause-named
returns-in_err-modules-clause-named g c = λ refused. c.in_ok-check_names.ensures.exact.0

pub returns-in_err-check_places-clause-named : goal.returns-in_err-check_places-clause-named
returns-in_err-check_places-clause-named g c = λ refused. c.in_ok-check_names.ensures.exact.0

pub returns-in_err-modules-clause-no_memory : goal.returns-in_err-modules-clause-no_memory
returns-in_err-modules-clause-no_memory g c = λ e refused.
    let few = few_images c.args.set.now (few_entries (entries_of c.args.set.now) c.in_ok-check_names.ensures.exact.0) in
    elim e [ inl none ↦ (let h = c.in_err-modules.ensures.empty none in absurd cc) | inr many ↦ absurd (omega arith) ]

pub returns-in_err-check_names-clause-no_memory : goal.returns-in_err-check_names-clause-no_memory
returns-in_err-check_names-clause-no_memory g c = λ e refused.
    let p = err_from_is_err_and c.from_residual.result c.from_residual.ensures.1 in
    let kept = c.in_err-check_names.ensures.no_memory in
    absurd (kept (cc))
