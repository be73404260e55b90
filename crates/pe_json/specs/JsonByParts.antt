-- What `json` returns for an image of whose file parts are read, and what it writes.
use Rattle.std.specs.Prelude.{ℕ, ◌≡◌, ◌≤◌, ◌⊎◌, false, max, List, [], ◌++◌, length, Option, None, Some, Result, Ok, Err}
use Rattle.pe_head.specs.Head.{head_of}
use Rattle.pe_head.specs.declared.headers.Headers.{Headers}
use Rattle.pe_tables.specs.Exports.{Exports}
use Rattle.pe_tables.specs.Imports.{Import}
use Rattle.pe_tables.specs.declared.fixups.Fixup.{Fixup}
use Rattle.pe_parts.specs.AtHand.{can_decide_tables}
use Rattle.pe_parts.specs.Packed.{IsPacked}
use Rattle.pe_text.specs.declared.outcome.Outcome.{Outcome}
use Rattle.pe_text.specs.declared.outcome.Outcome.TheVariants.{Done}
use Rattle.pe_text.specs.declared.outcome.ToolError.{ToolError}
use Rattle.pe_text.specs.Engine.{Puts}
use Rattle.pe_reach.specs.declared.parts_reading.Parts.{Parts}
use Rattle.pe_reach.specs.Parts.{Part, HasParts}
use Rattle.pe_reach.specs.PartNames.{with_strings, AreNotNamed}
use Rattle.pe_reach.specs.PartsRead.{AreOf, AreNotRead, names_in, packed_headers, packed_size}
use Rattle.pe_reach.specs.Views.{names_under}
use Rattle.pe_json.specs.ImageLine.{image_line}
use Rattle.pe_json.specs.JsonReport.{IsLineOf}

-- the outcome and the line of an image without a fault, and without tables that its profile leaves out
abbrev pub IsImageLine : List ℕ → Option (List ℕ) → Headers → Exports → List Import → List Fixup → Outcome → List ℕ → Type 0
IsImageLine name strings h exports imports fixups outcome text = (outcome ≡ Done) × (text ≡ image_line name strings h exports imports fixups [])

-- the outcome and the line of each file with these parts, in which its sections have their names
abbrev pub IsLineOfParts : {A : Type 0} → List ℕ → Parts A → Outcome → List ℕ → Type 0
IsLineOfParts name parts outcome text = (file : List ℕ) → AreOf parts file → names_in parts ≡ names_under file (head_of file) → IsLineOf None name file outcome text

-- what was written after the sink's earlier bytes: the line, or nothing if the parts do not decide the tables
abbrev pub PutsParts : {A : Type 0} → List ℕ → Parts A → List ℕ → List ℕ → ℕ → ℕ → Result (Option Outcome) ToolError → Type 0
PutsParts name parts before now count count' (Ok (Some outcome)) = Puts (IsLineOfParts name parts) before now count count' (Ok outcome)
PutsParts name parts before now count count' (Ok None) = (now ≡ before) × ((count' ≡ count) × (can_decide_tables 0 parts.packed parts.bytes.items ≡ false))
PutsParts name parts before now count count' (Err error) = Puts (IsLineOfParts name parts) before now count count' (Err error)

-- ---- why nothing was written
-- what was read are parts of a file of a length: these bytes, under its packed headers, with the string table at a pointer, or none at 0
pub record WereRead (len : ℕ) (before now : List Part) (headers : Headers) (bytes : List ℕ) (pointer : ℕ) : Type 0 where
  pub read : List Part
  pub reads : now ≡ before ++ read
  pub heads : (file : List ℕ) → length file ≡ len → HasParts file read → head_of file ≡ headers
  pub packed : (file : List ℕ) → length file ≡ len → HasParts file read → IsPacked file headers bytes (with_strings (packed_headers headers len) pointer)

-- the string table could not be put behind them
pub record HaveNoNames (len : ℕ) (before now : List Part) : Type 0 where
  pub headers : Headers
  pub bytes : List ℕ
  pub parts : List Part
  pub were_read : WereRead len before parts headers bytes 0
  pub size : length bytes ≡ packed_size headers len
  pub reason : AreNotNamed len headers (length bytes) parts now

-- they do not decide the tables
pub record DoNotDecide (len : ℕ) (before now : List Part) : Type 0 where
  pub headers : Headers
  pub bytes : List ℕ
  pub pointer : ℕ
  pub were_read : WereRead len before now headers bytes pointer
  pub size : length bytes ≤ max (packed_size headers len) len
  pub undecided : can_decide_tables 0 (with_strings (packed_headers headers len) pointer) bytes ≡ false

abbrev pub IsLeft : ℕ → List Part → List Part → Type 0
IsLeft len before now = AreNotRead len before now ⊎ (HaveNoNames len before now ⊎ DoNotDecide len before now)
