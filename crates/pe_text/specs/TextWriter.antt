-- What a text writer has written, and what it still has to write.
use Rattle.std.specs.Prelude.{ℕ, ◌≡◌, ◌+◌, ◌-◌, ◌^◌, ◌<◌, false, Bool, MatchBool, Result, MatchResult, List, [], ◌++◌, take}
use Rattle.pe_text.specs.declared.device.Failed.{Failed}
use Rattle.pe_text.specs.declared.text_writer.TextWriter.{TextWriter}

-- the text goes on after these bytes
abbrev pub IsBeginning : List ℕ → List ℕ → Type 0
IsBeginning bytes text = (rest : List ℕ) × (text ≡ bytes ++ rest)

-- all of the piece was taken; or the beginning of it, and one call failed
abbrev pub WritesAll : List ℕ → List ℕ → ℕ → ℕ → Result (Unit {0}) Failed → List ℕ → Type 0
WritesAll before now count count' result piece = MatchResult result
    (λ _. (now ≡ before ++ piece) × (count' ≡ count))
    (λ _. ((k : ℕ) × (now ≡ before ++ take k piece)) × (count' ≡ count + 1))

-- the whole text was taken; or the beginning of it, at least the bytes at the start, and one call failed
abbrev pub Finishes : List ℕ → ℕ → Result (Unit {0}) Failed → List ℕ → List ℕ → ℕ → Type 0
Finishes now count' result start text count = MatchResult result
    (λ _. (now ≡ text) × (count' ≡ count))
    (λ _. IsBeginning start now × IsBeginning now text × (count' ≡ count + 1))

-- a new writer to this sink: it holds no bytes, and no call has failed
pub record IsFresh {W : Type 0} (sink : W) (t : TextWriter W) : Type 0 where
  pub sink_is : t.writer.now ≡ sink
  pub holds_none : t.held.items ≡ []
  pub not_failed : t.failed ≡ false

-- the sink may be called, unless it has failed
abbrev pub IsReady : {W : Type 0} → (W → ℕ) → TextWriter W → Type 0
IsReady failures t = t.failed ≡ false → failures t.writer.now < 2 ^ 64 - 1

module _ {W : Type 0} (taken : W → List ℕ) (failures : W → ℕ) where
  -- The text so far begins with the bytes that the sink had taken at the start; all of it but the held bytes was taken. Or a call
  -- has failed, the only one since the count, and the beginning of the text was taken.
  unfoldable pub Stands : TextWriter W → List ℕ → List ℕ → ℕ → Type 0
  Stands t start text count = IsBeginning start (taken t.writer.now) × MatchBool t.failed
      ((failures t.writer.now ≡ count + 1) × IsBeginning (taken t.writer.now) text)
      ((failures t.writer.now ≡ count) × (text ≡ taken t.writer.now ++ t.held.items))

  -- these bytes are added to the text, whatever it was
  pub record Adds (old new : TextWriter W) (bytes : List ℕ) : Type 0 where
    pub same : new.writer.ghost_name ≡ old.writer.ghost_name
    pub ready : IsReady failures new
    pub text : (start text : List ℕ) (count : ℕ) → Stands old start text count → Stands new start (text ++ bytes) count

  -- whether a call has failed since the count
  abbrev pub TellsFailure : TextWriter W → Bool → Type 0
  TellsFailure t answer = (start text : List ℕ) (count : ℕ) → Stands t start text count
      → MatchBool answer (failures t.writer.now ≡ count + 1) (failures t.writer.now ≡ count)

  -- an unchanged writer counts as one to which any bytes were added
  abbrev pub TakesNoMore : TextWriter W → Type 0
  TakesNoMore t = (bytes : List ℕ) → Adds t t bytes
