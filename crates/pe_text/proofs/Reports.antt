-- What an engine reads and writes, from the contracts of `read_whole` and of the text writer.
use Rattle.std.proofs.Common.{ℕ, ◌≡◌, ◌+◌, ◌^◌, ◌<◌, ◌≤◌, Bool, List, [], ◌++◌, length, Result, Ok, Err, refl, sym, ◌∙◌, ap, append_assoc, append-nil, arith}
use Rattle.std.specs.Prelude.{IsErrAnd, IsErrOf, ◌↔◌}
use Rattle.std.proofs.lemmas.List.{append_cancel_left}
use Rattle.pe_text.specs.declared.outcome.Outcome.{Outcome}
use Rattle.pe_text.specs.declared.outcome.ToolError.{ToolError}
use Rattle.pe_text.specs.declared.outcome.ToolError.TheVariants.{Read, Write, Memory}
use Rattle.pe_text.specs.Engine.{IsWhole, FailsAfter, Puts, Written, OnJudged, Ran}
use Rattle.pe_text.specs.declared.text_writer.TextWriter.{TextWriter}
use Rattle.pe_text.specs.TextWriter.{IsBeginning, IsFresh, Stands, Adds}
use Rattle.pe_text.proofs.Adding.{Stands-fresh}

-- what was written after the start is a beginning of the text
pub since : (before now text : List ℕ) → IsBeginning before now → IsBeginning now (before ++ text) → (written : List ℕ) × (now ≡ before ++ written) × IsBeginning written text
since before now text p q = (p.0, p.1, (q.0, append_cancel_left before text (p.0 ++ q.0) (q.1 ∙ ap (λ (xs : List ℕ). xs ++ q.0) p.1 ∙ append_assoc before p.0 q.0)))

module _ {W : Type 0} (taken : W → List ℕ) (failures : W → ℕ) (IsText : Outcome → List ℕ → Type 0) where
  -- the text was written
  pub Puts-whole : (a b c : TextWriter W) (w v : W) (outcome : Outcome) → IsFresh w a
      → ((text : List ℕ) × IsText outcome text × Adds taken failures a b text)
      → ((start text : List ℕ) (count : ℕ) → Stands taken failures b start text count → (taken c.writer.now ≡ text) × (failures c.writer.now ≡ count))
      → v ≡ c.writer.now → Puts IsText (taken w) (taken v) (failures w) (failures v) (Ok outcome)
  Puts-whole a b c w v outcome fresh put ends is =
      let e = ends (taken w) (taken w ++ put.0) (failures w) (put.2.text _ _ _ (Stands-fresh taken failures a w fresh)) in
      (put.0, rw is e.0, (put.1, rw is e.1))

  -- the beginning of the text was written
  pub Puts-failed : (a b c : TextWriter W) (w v : W) (outcome : Outcome) → IsFresh w a
      → ((text : List ℕ) × IsText outcome text × Adds taken failures a b text)
      → ((start text : List ℕ) (count : ℕ) → Stands taken failures b start text count
      → IsBeginning start (taken c.writer.now) × IsBeginning (taken c.writer.now) text × (failures c.writer.now ≡ count + 1))
      → v ≡ c.writer.now → Puts IsText (taken w) (taken v) (failures w) (failures v) (Err Write)
  Puts-failed a b c w v outcome fresh put ends is =
      let e = ends (taken w) (taken w ++ put.0) (failures w) (put.2.text _ _ _ (Stands-fresh taken failures a w fresh)) in
      let s = since (taken w) (taken c.writer.now) put.0 e.0 e.1 in
      (s.0, rw is s.1, (rw is e.2, (outcome, (put.0, put.1, s.2))))

  -- nothing was written
  pub Puts-none : (a b : TextWriter W) (w v : W) → IsFresh w a → b.writer.now ≡ a.writer.now → v ≡ b.writer.now → Puts IsText (taken w) (taken v) (failures w) (failures v) (Err Memory)
  Puts-none a b w v fresh same is =
      let e : v ≡ w = is ∙ same ∙ fresh.sink_is in
      ([], rw e (sym (append-nil (taken w))), (rw e refl, refl))

-- if reading failed, nothing was checked and nothing was written
unread : (IsText : Outcome → List ℕ → Type 0) (Whole : Type 0) (count count' : ℕ) (error : ToolError) (input : List ℕ) → FailsAfter input count count' error
    → (let result : Result Outcome ToolError = Err error in Written IsText result [] × OnJudged result Whole × (IsErrOf result Memory → 0 < length input))
unread IsText Whole count count' Read input fails = (refl, tt, λ is. cc)
unread IsText Whole count count' Write input fails = absurd fails
unread IsText Whole count count' Memory input fails = (refl, tt, λ is. fails.0)

-- an engine whose reading failed
pub Ran-unread : (IsText : List ℕ → Outcome → List ℕ → Type 0) (given given' taken : List ℕ) (ended : Bool) (count count' : ℕ) (error : ToolError)
    (result : Result Outcome ToolError) → IsErrAnd result (λ e. e ≡ error)
    → (input : List ℕ) × (given' ≡ given ++ input) × FailsAfter input count count' error × (length input ≤ 2 ^ 32 + 1)
    → Ran IsText given given' taken taken ended result
Ran-unread IsText given given' taken ended count count' error (Ok outcome) is read = absurd is
Ran-unread IsText given given' taken ended count count' error (Err e) is read =
    let u = unread (IsText read.0) (IsWhole ended read.0) count count' error read.0 read.2 in
    rw is (record { input = read.0; written = []; reads = read.1; writes = sym (append-nil taken); text = u.0; limit = read.3; whole = u.1; memory = u.2 })

-- a write failed exactly if the count rose
pub write_told : (IsText : Outcome → List ℕ → Type 0) (before now : List ℕ) (count count' : ℕ) (result : Result Outcome ToolError) → Puts IsText before now count count' result
    → IsErrOf result Write ↔ (count < count')
write_told IsText before now count count' (Ok outcome) puts = let same = puts.2.1 in (λ is. absurd cc, λ rose. absurd (omega (arith, rose, same)))
write_told IsText before now count count' (Err Read) puts = absurd puts.2
write_told IsText before now count count' (Err Write) puts = let one = puts.2.0 in (λ is. omega (arith, one), λ rose. refl)
write_told IsText before now count count' (Err Memory) puts = let same = puts.2.0 in (λ is. absurd cc, λ rose. absurd (omega (arith, rose, same)))
