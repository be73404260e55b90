-- The report of a space by its content, and what is told of a set that was opened or refused. No contract of a public function uses
-- this module.
use Rattle.std.specs.Prelude.{◌≡◌, ℕ, ◌≤◌, ◌<◌, ◌^◌, List, ◌++◌, All, codes, flat_map, length, map, Option, None, Some, Result, Ok, Err}
use Rattle.pe_view.specs.declared.fault.Fault.{Fault}
use Rattle.pe_set.specs.SetView.{entry_view}
use Rattle.pe_set.specs.declared.binding.Binding.{Binding}
use Rattle.pe_set.specs.declared.entry.SetEntry.{SetEntry}
use Rattle.pe_set.specs.declared.error.MapError.{MapError}
use Rattle.pe_set.specs.declared.error.MapError.TheVariants as errors
use Rattle.pe_space.specs.Content.{Content, byte_at, placement_of, window_at}
use Rattle.pe_space.specs.ImagesApart.{ImagesApart}
use Rattle.pe_text.specs.declared.outcome.Outcome.{Outcome}
use Rattle.pe_text.specs.declared.outcome.Outcome.TheVariants.{Done, Refused}
use Rattle.pe_text.specs.FaultLine.{fault_line, cycle_line}
use Rattle.pe_text.specs.Text.{numbered}
use Rattle.pe_map_lines.specs.MapReport.{bind_line, export_address, refusal_of, told_line, window_lines}

-- the report of a space of the images of a set
unfoldable pub space_text : List SetEntry → Content → Option (ℕ × ℕ) → List ℕ
space_text set c window =
    numbered (λ number (e : SetEntry). told_line (map placement_of c.images) number (entry_view e)) 0 set
    ++ flat_map (λ (b : Binding). bind_line b (export_address (map placement_of c.images) b)) c.bindings
    ++ window_lines (byte_at c) window
    ++ codes "end\n"

-- fault 54 if the window is not inside one image
abbrev pub space_fault : Content → Option (ℕ × ℕ) → Option Fault
space_fault c None = None
space_fault c (Some w) = refusal_of (window_at c w.0 w.1)

-- what the lines of a space rely on: it has few images, which lie apart, and its exports are in the address space
pub record IsTellable (set : List SetEntry) (c : Content) : Type 0 where
  pub few : length set ≤ 256
  pub apart : ImagesApart c
  pub room : All (λ (b : Binding). export_address (map placement_of c.images) b < 2 ^ 64) c.bindings

-- the report of a space, or fault 54
abbrev pub IsSpaceReport : List SetEntry → Content → Option (ℕ × ℕ) → Outcome → List ℕ → Type 0
IsSpaceReport set c window Done text = (space_fault c window ≡ None) × (text ≡ space_text set c window)
IsSpaceReport set c window (Refused fault) text = (space_fault c window ≡ Some fault) × (text ≡ fault_line fault)

-- what is told of a set, by its space or by the error that refused it
abbrev pub IsAnswerText : List SetEntry → Option (ℕ × ℕ) → Result Content MapError → Outcome → List ℕ → Type 0
IsAnswerText set window (Ok c) outcome text = IsSpaceReport set c window outcome text
IsAnswerText set window (Err errors.Memory) outcome text = ⊥
IsAnswerText set window (Err (errors.Fault own)) outcome text = (outcome ≡ Refused own) × (text ≡ fault_line own)
IsAnswerText set window (Err (errors.Cycle own length)) outcome text = (outcome ≡ Refused own) × (text ≡ cycle_line own length)
