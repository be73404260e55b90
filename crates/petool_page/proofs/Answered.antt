-- What an engine puts into an empty sink over a caller's room is what the call tells.
use Rattle.std.proofs.Common.{rules, ◌≡◌, ◌⊎◌, ◌<◌, ◌≤◌, ◌∙◌, arith, inl, inr, ℕ, List, [], Result, Ok, Err, ap, length, refl, sym, take}
use Rattle.std.proofs.lemmas.List.{length-take-le}
use Rattle.std.specs.Prelude.{IsErrOf}
use Rattle.pe_view.specs.declared.fault.Fault.{Fault}
use Rattle.pe_text.specs.declared.outcome.Outcome.{Outcome}
use Rattle.pe_text.specs.declared.outcome.Outcome.TheVariants.{Done, Refused}
use Rattle.pe_text.specs.declared.outcome.ToolError.{ToolError}
use Rattle.pe_text.specs.declared.outcome.ToolError.TheVariants.{Read, Write, Memory}
use Rattle.pe_text.specs.Engine.{IsRefusal, Puts}
use Rattle.pe_text.specs.Outcome.{status_of}
use Rattle.petool_page.specs.Told.{IsTold}

module _ (IsText : Outcome → List ℕ → Type 0) (room before now : List ℕ) (len count count' status : ℕ) (answer : Result Outcome ToolError) where
  pub told : Puts IsText before now count count' answer → before ≡ [] → count ≡ 0 → take len room ≡ now → status ≡ status_of answer → IsTold IsText room len status
  told puts empty none taken is = (answer, (count', (is, (rw (empty, none, sym taken) at puts))))

-- where memory ran out before an engine was asked
pub told_nothing : (IsText : Outcome → List ℕ → Type 0) (room : List ℕ) (len status : ℕ) → take len room ≡ [] → status ≡ 4 → IsTold IsText room len status
told_nothing IsText room len status none is = (Err Memory, (0, (is, ([], none, (refl, refl)))))

-- a text of the first kind is one of the second
module _ (P Q : Outcome → List ℕ → Type 0) (of_first : (outcome : Outcome) (text : List ℕ) → P outcome text → Q outcome text)
    (before now : List ℕ) (count count' : ℕ) where
  pub puts_other : (answer : Result Outcome ToolError) → Puts P before now count count' answer → Puts Q before now count count' answer
  puts_other (Ok outcome) puts = (puts.0, puts.1, (of_first outcome puts.0 puts.2.0, puts.2.1))
  puts_other (Err Read) puts = absurd puts.2
  puts_other (Err Write) puts =
      let begins = puts.2.1 in
      (puts.0, puts.1, (puts.2.0, (begins.0, (begins.1.0, of_first begins.0 begins.1.0 begins.1.1, begins.1.2))))
  puts_other (Err Memory) puts = puts

-- the status 3 comes of a write that failed
module _ (IsText : Outcome → List ℕ → Type 0) (before now : List ℕ) (count count' : ℕ) where
  pub failed : (answer : Result Outcome ToolError) → Puts IsText before now count count' answer → status_of answer ≡ 3 → 0 < count'
  failed (Ok Done) puts three = absurd (omega (arith, three))
  failed (Ok (Refused fault)) puts three = absurd (omega (arith, three))
  failed (Err Read) puts three = absurd puts.2
  failed (Err Write) puts three = omega (arith, puts.2.0)
  failed (Err Memory) puts three = absurd (omega (arith, three))

-- of a refusal nothing is put, unless the status is 1 or 3
module _ (fault : Fault) (room before now : List ℕ) (len count count' : ℕ) (empty : before ≡ []) (taken : take len room ≡ now) (inside : len ≤ length room) where
  pub puts_none : (answer : Result Outcome ToolError) → Puts (IsRefusal fault) before now count count' answer
      → (status_of answer ≡ 0) ⊎ ((status_of answer ≡ 4) ⊎ (status_of answer ≡ 5)) → len ≡ 0
  puts_none (Ok Done) puts ended = search rules
  puts_none (Ok (Refused other)) puts ended = search rules
  puts_none (Err Read) puts ended = absurd puts.2
  puts_none (Err Write) puts ended = search rules
  puts_none (Err Memory) puts ended = sym (length-take-le len room inside) ∙ ap length (taken ∙ rw (empty, puts.2.1) at puts.1)

-- a refusal is told, or a write of it fails
module _ (fault : Fault) (before now : List ℕ) (count count' : ℕ) where
  pub refuses : (answer : Result Outcome ToolError) → Puts (IsRefusal fault) before now count count' answer → (IsErrOf answer Memory → ⊥)
      → (status_of answer ≡ 1) ⊎ (status_of answer ≡ 3)
  refuses (Ok Done) puts none = search rules
  refuses (Ok (Refused other)) puts none = inl refl
  refuses (Err Read) puts none = inr refl
  refuses (Err Write) puts none = inr refl
  refuses (Err Memory) puts none = absurd (none (search rules))
