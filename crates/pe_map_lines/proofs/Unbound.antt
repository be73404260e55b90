-- The whole output with the imports that are bound to nothing.
use Rattle.std.proofs.Common.{◌≡◌, ◌∙◌, ℕ, Bool, List, ◌++◌, map, Option, None, Result, Ok, Err, sym, ap, subst, append-nil}
use Rattle.std.specs.Prelude.{IfOk, OnErr, flat_map}
use Rattle.pe_tables.specs.Imports.{Import}
use Rattle.pe_set.specs.DelayedErrors.{delayed_error}
use Rattle.pe_set.specs.Set.{Entry, modules_of}
use Rattle.pe_set.specs.SetErrors.{set_error}
use Rattle.pe_set.specs.declared.entry.Policy.{Policy}
use Rattle.pe_unbound.specs.Unbound.{unbound_of}
use Rattle.pe_text.specs.declared.outcome.Outcome.{Outcome}
use Rattle.pe_text.specs.declared.outcome.Outcome.TheVariants.{Done, Refused}
use Rattle.pe_map_lines.specs.DelayedReport.{IsDelayedReport, IsDelayedText, IsToldIn}
use Rattle.pe_map_lines.specs.MapReport.{IsMapText}
use Rattle.pe_map_lines.specs.UnboundImports.{unbound_line, unbound_view, told_after, IsUnboundText}
use Rattle.pe_map_lines.specs.declared.unbound_imports.UnboundImport.{UnboundImport}

pub whole : (policy : Policy) (es : List Entry) (window : Option (ℕ × ℕ)) (outcome : Outcome) (report : List ℕ) (us : List UnboundImport)
    → IsMapText policy es window outcome report → (set_error policy es ≡ None → map unbound_view us ≡ unbound_of (modules_of es))
    → IsUnboundText policy es window outcome (report ++ flat_map unbound_line (map unbound_view (told_after outcome us)))
whole policy es window Done report us is all = (report, is, ap (λ (xs : List (ℕ × Import)). report ++ flat_map unbound_line xs) (all is.0))
whole policy es window (Refused fault) report us is all = subst (λ (text : List ℕ). IsMapText policy es window (Refused fault) text) (sym (append-nil report)) is

pub if_err : {T E : Type 0} (r : Result T E) (P : Type 0) → P → OnErr r P
if_err (Ok x) P p = tt
if_err (Err e) P p = p

-- what an exact result is, is said of one that needs a condition too
pub exact_unless : {V E X : Type 0} (result : Result V E) (view : V → X) (told is : X) (Condition : Type 0) → told ≡ is → IfOk result (λ v. view v ≡ told) → IfOk result (λ v. Condition → view v ≡ is)
exact_unless (Ok v) view told is Condition same exact = λ condition. exact ∙ same
exact_unless (Err e) view told is Condition same exact = tt

-- the whole output with delay-loaded imports
pub whole_delayed : (is_unbound : Bool) (policy : Policy) (es : List Entry) (window : Option (ℕ × ℕ)) (outcome : Outcome) (report : List ℕ) (us : List UnboundImport)
    → IsDelayedReport policy es window outcome report → (set_error policy es ≡ None → IsToldIn is_unbound es us) → (delayed_error policy es ≡ None → set_error policy es ≡ None)
    → IsDelayedText is_unbound policy es window outcome (report ++ flat_map unbound_line (map unbound_view (told_after outcome us)))
whole_delayed is_unbound policy es window Done report us is all none = (report, is, ap (λ (xs : List (ℕ × Import)). report ++ flat_map unbound_line xs) (all (none is.0)))
whole_delayed is_unbound policy es window (Refused fault) report us is all none = subst (λ (text : List ℕ). IsDelayedReport policy es window (Refused fault) text) (sym (append-nil report)) is
