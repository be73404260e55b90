-- The report of a mapped set: the bases of its images, the bindings of their slots, and the bytes of a window.
use Rattle.std.specs.Prelude.{◌≡◌, ℕ, ◌+◌, ◌-◌, ◌*◌, ◌/◌, List, [], ◌∷◌, ◌++◌, codes, decimal, flat_map, map, min, Option, None, Some, unwrap_or, Result, Ok, Err}
use Rattle.std.specs.List.{range_with_len}
use Rattle.pe_view.specs.declared.fault.Fault.{Fault}
use Rattle.pe_set.specs.Bindings.{bindings_of}
use Rattle.pe_set.specs.Placement.{Placement}
use Rattle.pe_set.specs.Set.{Entry, Module, modules_of, placement_of}
use Rattle.pe_set.specs.SetErrors.{set_error}
use Rattle.pe_set.specs.declared.binding.Binding.{Binding}
use Rattle.pe_set.specs.declared.error.MapError.{MapError}
use Rattle.pe_set.specs.declared.error.MapError.TheVariants as errors
use Rattle.pe_set.specs.declared.entry.Policy.{Policy}
use Rattle.pe_space.specs.Content.{window_at, base_in, size_in}
use Rattle.pe_space.specs.SetContent.{content_of, defined_byte}
use Rattle.pe_text.specs.declared.outcome.Outcome.{Outcome}
use Rattle.pe_text.specs.declared.outcome.Outcome.TheVariants.{Done, Refused}
use Rattle.pe_text.specs.FaultLine.{fault_line, cycle_line}
use Rattle.pe_text.specs.Part.{joined}
use Rattle.pe_text.specs.Text.{hex, quoted, numbered}

-- an image: its number in the set, its module's name, its base and its SizeOfImage
unfoldable pub image_line : ℕ → List ℕ → ℕ → ℕ → List ℕ
image_line number name base size = joined
    (codes "image " ∷ decimal number ∷ codes " " ∷ quoted name ∷ codes " base 0x" ∷ hex 16 base ∷ codes " size 0x" ∷ hex 8 size ∷ codes "\n" ∷ [])

-- a bound slot: its image and its RVA, the image and the RVA of the export, and the address in the slot
unfoldable pub bind_line : Binding → ℕ → List ℕ
bind_line b address = joined
    (codes "bind " ∷ decimal b.image ∷ codes " 0x" ∷ hex 8 b.slot
    ∷ codes " to " ∷ decimal b.exporter ∷ codes " 0x" ∷ hex 8 b.rva
    ∷ codes " value 0x" ∷ hex 16 address ∷ codes "\n" ∷ [])

abbrev pub byte_text : ℕ → List ℕ
byte_text byte = codes " " ++ hex 2 byte

-- bytes, after the address of the first
unfoldable pub bytes_line : ℕ → List ℕ → List ℕ
bytes_line address bytes = codes "0x" ++ hex 16 address ++ flat_map byte_text bytes ++ codes "\n"

-- the line of an entry, for these placements of the images
abbrev pub told_line : List Placement → ℕ → Entry → List ℕ
told_line ps number e = image_line number e.name e.base (unwrap_or (size_in ps number) 0)

-- the address of the export of a bound slot, for these placements
abbrev pub export_address : List Placement → Binding → ℕ
export_address ps b = unwrap_or (base_in ps b.exporter) 0 + b.rva

-- the bytes from an address on, given the byte at each
abbrev pub bytes_from : (ℕ → Option ℕ) → ℕ → ℕ → List ℕ
bytes_from byte address count = map (λ a. unwrap_or (byte a) 0) (range_with_len address count)

-- line k of a window of `count` bytes: sixteen of them, or the rest
abbrev pub window_line : (ℕ → Option ℕ) → ℕ → ℕ → ℕ → List ℕ
window_line byte address count k = bytes_line (address + 16 * k) (bytes_from byte (address + 16 * k) (min 16 (count - 16 * k)))

abbrev pub window_lines : (ℕ → Option ℕ) → Option (ℕ × ℕ) → List ℕ
window_lines byte None = []
window_lines byte (Some w) = flat_map (window_line byte w.0 w.1) (range_with_len 0 ((w.1 + 15) / 16))

-- the whole report
unfoldable pub map_text : List Module → Option (ℕ × ℕ) → List ℕ
map_text s window =
    numbered (λ number (m : Module). image_line number m.name m.base m.image.size) 0 s
    ++ flat_map (λ (b : Binding). bind_line b (export_address (map placement_of s) b)) (bindings_of s)
    ++ window_lines (defined_byte s) window
    ++ codes "end\n"

-- ---- refusals
abbrev pub refusal_of : {X : Type 0} → Result X Fault → Option Fault
refusal_of (Ok x) = None
refusal_of (Err fault) = Some fault

-- fault 54 if the window is not inside one image
abbrev pub window_fault : List Module → Option (ℕ × ℕ) → Option Fault
window_fault s None = None
window_fault s (Some w) = refusal_of (window_at (content_of s) w.0 w.1)

-- a refusal and its line: the error of the set, or else fault 54 of the window
abbrev pub IsRefusalText : Option MapError → Option Fault → Fault → List ℕ → Type 0
IsRefusalText None window fault text = (window ≡ Some fault) × (text ≡ fault_line fault)
IsRefusalText (Some errors.Memory) window fault text = ⊥
IsRefusalText (Some (errors.Fault own)) window fault text = (fault ≡ own) × (text ≡ fault_line own)
IsRefusalText (Some (errors.Cycle own length)) window fault text = (fault ≡ own) × (text ≡ cycle_line own length)

-- the output for a set with this first error, if any, and these images
abbrev pub IsReportText : Option MapError → List Module → Option (ℕ × ℕ) → Outcome → List ℕ → Type 0
IsReportText error s window Done text = (error ≡ None) × (window_fault s window ≡ None) × (text ≡ map_text s window)
IsReportText error s window (Refused fault) text = IsRefusalText error (window_fault s window) fault text

-- the output of `map_report`
abbrev pub IsMapText : Policy → List Entry → Option (ℕ × ℕ) → Outcome → List ℕ → Type 0
IsMapText policy es = IsReportText (set_error policy es) (modules_of es)
