-- The report of a mapped set whose delay-loaded imports are bound too.
use Rattle.std.specs.Prelude.{◌≡◌, ℕ, Bool, if◌then◌else◌, List, [], ◌++◌, flat_map, map, Option}
use Rattle.pe_tables.specs.Imports.{Import}
use Rattle.pe_set.specs.DelayedErrors.{delayed_error}
use Rattle.pe_set.specs.DelayedImports.{with_delayed}
use Rattle.pe_set.specs.Set.{Entry, modules_of}
use Rattle.pe_set.specs.declared.entry.Policy.{Policy}
use Rattle.pe_unbound.specs.Unbound.{unbound_of}
use Rattle.pe_text.specs.declared.outcome.Outcome.{Outcome}
use Rattle.pe_text.specs.declared.outcome.Outcome.TheVariants.{Done, Refused}
use Rattle.pe_map_lines.specs.MapReport.{IsReportText}
use Rattle.pe_map_lines.specs.UnboundImports.{unbound_line, unbound_view}
use Rattle.pe_map_lines.specs.declared.unbound_imports.UnboundImport.{UnboundImport}

-- the report alone
abbrev pub IsDelayedReport : Policy → List Entry → Option (ℕ × ℕ) → Outcome → List ℕ → Type 0
IsDelayedReport policy es = IsReportText (delayed_error policy es) (with_delayed (modules_of es))

-- the imports that are told after a report, if they are asked for: those of the import tables that are bound to nothing
abbrev pub told_unbound : Bool → List Entry → List (ℕ × Import)
told_unbound is_unbound es = if is_unbound then unbound_of (modules_of es) else []

-- the output of `map_report_delayed`: the report, and after it a line for each of these
abbrev pub IsDelayedText : Bool → Policy → List Entry → Option (ℕ × ℕ) → Outcome → List ℕ → Type 0
IsDelayedText is_unbound policy es window Done text =
    (report : List ℕ) × IsDelayedReport policy es window Done report × (text ≡ report ++ flat_map unbound_line (told_unbound is_unbound es))
IsDelayedText is_unbound policy es window (Refused fault) text = IsDelayedReport policy es window (Refused fault) text

-- these are kept of them
abbrev pub IsToldIn : Bool → List Entry → List UnboundImport → Type 0
IsToldIn is_unbound es us = map unbound_view us ≡ told_unbound is_unbound es
