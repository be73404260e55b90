-- The lines of the imports of a set that are bound to nothing.
use Rattle.std.specs.Prelude.{◌≡◌, ℕ, List, [], ◌++◌, codes, decimal, flat_map, Option}
use Rattle.pe_tables.specs.ImportView.{import_view}
use Rattle.pe_tables.specs.Imports.{Import}
use Rattle.pe_set.specs.Set.{Entry, modules_of}
use Rattle.pe_set.specs.declared.entry.Policy.{Policy}
use Rattle.pe_unbound.specs.Unbound.{unbound_of}
use Rattle.pe_lines.specs.TableLines.{key_text}
use Rattle.pe_text.specs.declared.outcome.Outcome.{Outcome}
use Rattle.pe_text.specs.declared.outcome.Outcome.TheVariants.{Done, Refused}
use Rattle.pe_text.specs.Text.{hex, quoted}
use Rattle.pe_map_lines.specs.MapReport.{IsMapText}
use Rattle.pe_map_lines.specs.declared.unbound_imports.UnboundImport.{UnboundImport}

-- an import that is bound to nothing: its image, the RVA of its slot, its module, and its ordinal or name
unfoldable pub unbound_line : ℕ × Import → List ℕ
unbound_line u =
    codes "unbound " ++ decimal u.0 ++ codes " 0x" ++ hex 8 u.1.slot ++ codes " " ++ quoted u.1.module_name ++ codes " " ++ key_text u.1.key ++ codes "\n"

-- the output of `map_report_unbound`: that of `map_report`, and after a report a line for each import that is bound to nothing
abbrev pub IsUnboundText : Policy → List Entry → Option (ℕ × ℕ) → Outcome → List ℕ → Type 0
IsUnboundText policy es window Done text = (report : List ℕ) × IsMapText policy es window Done report × (text ≡ report ++ flat_map unbound_line (unbound_of (modules_of es)))
IsUnboundText policy es window (Refused fault) text = IsMapText policy es window (Refused fault) text

-- ---- what is kept of them
abbrev pub unbound_view : UnboundImport → ℕ × Import
unbound_view u = (u.image, import_view u.«import»)

-- what is told after an outcome: nothing after a refusal
abbrev pub told_after : {X : Type 0} → Outcome → List X → List X
told_after Done us = us
told_after (Refused fault) us = []
