-- What an engine reads and writes that knows the size of its file.
use Rattle.std.proofs.Common.{◌≡◌, ℕ, ◌+◌, ◌^◌, ◌<◌, ◌≤◌, Bool, List, [], ◌++◌, length, Result, Ok, Err, refl, sym, subst, append-nil, inl, inr}
use Rattle.std.specs.Prelude.{IsErrAnd, IsErrOf, ◌⊎◌}
use Rattle.pe_view.specs.declared.fault.Fault.{Fault}
use Rattle.pe_text.specs.declared.outcome.Outcome.{Outcome}
use Rattle.pe_text.specs.declared.outcome.Outcome.TheVariants.{Refused}
use Rattle.pe_text.specs.declared.outcome.ToolError.{ToolError}
use Rattle.pe_text.specs.declared.outcome.ToolError.TheVariants.{Read, Write, Memory}
use Rattle.pe_text.specs.FaultLine.{fault_line}
use Rattle.pe_text.specs.Engine.{IsWhole, FailsAfter, IsRefusal, OnJudged, Puts, BeginsText, Written, Ran}
use Rattle.pe_reach.specs.Reach.{Begins, Refuse}
use Rattle.pe_reach.specs.Sized.{RefusesByFaults, RefusesBy, IsKnown, WrittenSized, RanSized}

-- the texts of files that are alike are the same
abbrev pub Carries : (List ℕ → List ℕ → Type 0) → (List ℕ → Outcome → List ℕ → Type 0) → Type 0
Carries Alike IsText = (f g : List ℕ) → Alike f g → (outcome : Outcome) (text : List ℕ) → IsText g outcome text → IsText f outcome text

-- bytes are the whole file, or like each file of a length that begins with them
abbrev pub Suffice : (List ℕ → List ℕ → Type 0) → Bool → ℕ → List ℕ → Type 0
Suffice Alike ended len input = IsWhole ended input ⊎ ((file : List ℕ) → Begins input len file → Alike file input)

module _ (Alike : List ℕ → List ℕ → Type 0) (ended : Bool) (len : ℕ) (input : List ℕ) where
  -- what holds of enough bytes is known of the file
  pub known : (Holds : List ℕ → Type 0) → ((file : List ℕ) → Alike file input → Holds input → Holds file) → Suffice Alike ended len input → Holds input → IsKnown ended len input Holds
  known Holds carries enough holds = elim enough [ inl whole ↦ inl (whole, holds) | inr alike ↦ inr (λ file b. carries file (alike file b) holds) ]

  -- the text of enough bytes
  put : (IsText : List ℕ → Outcome → List ℕ → Type 0) → Carries Alike IsText → Suffice Alike ended len input → (before now : List ℕ) (count count' : ℕ) (result : Result Outcome ToolError) → (puts : Puts (IsText input) before now count count' result) → WrittenSized IsText ended len input result puts.0
  put IsText follows enough before now count count' (Ok outcome) puts = known (λ file. IsText file outcome puts.0) (λ file same is. follows file input same outcome puts.0 is) enough puts.2.0
  put IsText follows enough before now count count' (Err Read) puts = absurd puts.2
  put IsText follows enough before now count count' (Err Write) puts =
      known (λ file. BeginsText (IsText file) puts.0) (λ file same is. (is.0, (is.1.0, follows file input same is.0 is.1.0 is.1.1, is.1.2))) enough puts.2.1
  put IsText follows enough before now count count' (Err Memory) puts = puts.2.1

module _ (IsText : List ℕ → Outcome → List ℕ → Type 0) (ended : Bool) (len : ℕ) (input : List ℕ) where
  -- the line of a fault that the bytes decide
  put_refusal : (fault : Fault) → ((file : List ℕ) → Begins input len file → IsText file (Refused fault) (fault_line fault)) → (before now : List ℕ) (count count' : ℕ) (result : Result Outcome ToolError)
      → (puts : Puts (IsRefusal fault) before now count count' result) → WrittenSized IsText ended len input result puts.0
  put_refusal fault refuse before now count count' (Ok outcome) puts = inr (λ file b. rw (puts.2.0.0, puts.2.0.1) (refuse file b))
  put_refusal fault refuse before now count count' (Err Read) puts = absurd puts.2
  put_refusal fault refuse before now count count' (Err Write) puts =
      let is = puts.2.1 in
      inr (λ file b. (Refused fault, (fault_line fault, refuse file b, rw (sym is.1.1.1) is.1.2)))
  put_refusal fault refuse before now count count' (Err Memory) puts = puts.2.1

-- an engine that read enough
pub ran : (Alike : List ℕ → List ℕ → Type 0) (IsText : List ℕ → Outcome → List ℕ → Type 0) → Carries Alike IsText → (len : ℕ) (given given' taken taken' : List ℕ) (ended : Bool) (count count' : ℕ) (result : Result Outcome ToolError) (bytes input : List ℕ) → bytes ≡ input
    → given' ≡ given ++ input → Suffice Alike ended len input → length input ≤ 2 ^ 32 + 1 → Puts (IsText bytes) taken taken' count count' result → (IsErrOf result Memory → 0 < length bytes) → RanSized IsText len given given' taken taken' ended result
ran Alike IsText follows len given given' taken taken' ended count count' result bytes input same reads enough limit puts memory =
    let puts' : Puts (IsText input) taken taken' count count' result = subst (λ (xs : List ℕ). Puts (IsText xs) taken taken' count count' result) same puts in
    record {
      input = input;
      written = puts'.0;
      reads = reads;
      writes = puts'.1;
      text = put Alike ended len input IsText follows enough taken taken' count count' result puts';
      limit = limit;
      memory = subst (λ (xs : List ℕ). IsErrOf result Memory → 0 < length xs) same memory;
    }

-- an engine that wrote the line of a fault that the first bytes of a file decide
pub ran_line : (IsText : List ℕ → Outcome → List ℕ → Type 0) (len : ℕ) (given given' taken taken' : List ℕ) (ended : Bool) (count count' : ℕ) (result : Result Outcome ToolError) (input : List ℕ) (fault : Fault)
    → given' ≡ given ++ input → ((file : List ℕ) → Begins input len file → IsText file (Refused fault) (fault_line fault)) → length input ≤ 2 ^ 32 + 1 → Puts (IsRefusal fault) taken taken' count count' result → (IsErrOf result Memory → ⊥)
    → RanSized IsText len given given' taken taken' ended result
ran_line IsText len given given' taken taken' ended count count' result input fault reads refuse limit puts never =
    record {
      input = input;
      written = puts.0;
      reads = reads;
      writes = puts.1;
      text = put_refusal IsText ended len input fault refuse taken taken' count count' result puts;
      limit = limit;
      memory = λ is. absurd (never is);
    }

pub ran_early : (IsText : List ℕ → Outcome → List ℕ → Type 0) → RefusesByFaults IsText → (len : ℕ) (given given' taken taken' : List ℕ) (ended : Bool) (count count' : ℕ) (result : Result Outcome ToolError) (input : List ℕ) (fault : Fault)
    → given' ≡ given ++ input → Refuse len input fault → length input ≤ 2 ^ 32 + 1 → Puts (IsRefusal fault) taken taken' count count' result → (IsErrOf result Memory → ⊥) → RanSized IsText len given given' taken taken' ended result
ran_early IsText refuses len given given' taken taken' ended count count' result input fault reads refuse limit puts never =
    ran_line IsText len given given' taken taken' ended count count' result input fault reads (λ file b. refuses file fault (refuse file b)) limit puts never

-- an engine that read its file whole
sized_text : (IsText : List ℕ → Outcome → List ℕ → Type 0) (ended : Bool) (len : ℕ) (input written : List ℕ) (result : Result Outcome ToolError) → Written (IsText input) result written → OnJudged result (IsWhole ended input)
    → WrittenSized IsText ended len input result written
sized_text IsText ended len input written (Ok outcome) text whole = inl (whole, text)
sized_text IsText ended len input written (Err Read) text whole = text
sized_text IsText ended len input written (Err Write) text whole = inl (whole, text)
sized_text IsText ended len input written (Err Memory) text whole = text

pub ran_whole : (IsText : List ℕ → Outcome → List ℕ → Type 0) (len : ℕ) (given given' taken taken' : List ℕ) (ended : Bool) (result : Result Outcome ToolError) → Ran IsText given given' taken taken' ended result
    → RanSized IsText len given given' taken taken' ended result
ran_whole IsText len given given' taken taken' ended result run = record {
  input = run.input;
  written = run.written;
  reads = run.reads;
  writes = run.writes;
  text = sized_text IsText ended len run.input run.written result run.text run.whole;
  limit = run.limit;
  memory = run.memory;
}

-- the text of a file that its first bytes refuse, whatever it is
put_refused : (IsText : List ℕ → Outcome → List ℕ → Type 0) (ended : Bool) (len : ℕ) (input : List ℕ) (fault : Fault) → ((file : List ℕ) → Begins input len file → RefusesBy (IsText file) fault)
    → (before now : List ℕ) (count count' : ℕ) (result : Result Outcome ToolError) → (puts : Puts (λ outcome text. outcome ≡ Refused fault) before now count count' result) → WrittenSized IsText ended len input result puts.0
put_refused IsText ended len input fault refuse before now count count' (Ok outcome) puts = inr (λ file b. rw puts.2.0 (refuse file b puts.0))
put_refused IsText ended len input fault refuse before now count count' (Err Read) puts = absurd puts.2
put_refused IsText ended len input fault refuse before now count count' (Err Write) puts =
    let is = puts.2.1 in
    inr (λ file b. (Refused fault, (is.1.0, refuse file b is.1.0, is.1.2)))
put_refused IsText ended len input fault refuse before now count count' (Err Memory) puts = puts.2.1

-- an engine that refused a file by its first bytes, with any text
pub ran_refused : (IsText : List ℕ → Outcome → List ℕ → Type 0) → (len : ℕ) (given given' taken taken' : List ℕ) (ended : Bool) (count count' : ℕ) (result : Result Outcome ToolError) (input : List ℕ) (fault : Fault)
    → given' ≡ given ++ input → ((file : List ℕ) → Begins input len file → RefusesBy (IsText file) fault) → length input ≤ 2 ^ 32 + 1
    → Puts (λ outcome text. outcome ≡ Refused fault) taken taken' count count' result → (IsErrOf result Memory → ⊥) → RanSized IsText len given given' taken taken' ended result
ran_refused IsText len given given' taken taken' ended count count' result input fault reads refuse limit puts never =
    record {
      input = input;
      written = puts.0;
      reads = reads;
      writes = puts.1;
      text = put_refused IsText ended len input fault refuse taken taken' count count' result puts;
      limit = limit;
      memory = λ is. absurd (never is);
    }

unread : (IsText : List ℕ → Outcome → List ℕ → Type 0) (ended : Bool) (len count count' : ℕ) (error : ToolError) (input : List ℕ) → FailsAfter input count count' error
    → (let result : Result Outcome ToolError = Err error in WrittenSized IsText ended len input result [] × (IsErrOf result Memory → 0 < length input))
unread IsText ended len count count' Read input fails = (refl, λ is. cc)
unread IsText ended len count count' Write input fails = absurd fails
unread IsText ended len count count' Memory input fails = (refl, λ is. fails.0)

-- an engine whose reading failed
pub ran-unread : (IsText : List ℕ → Outcome → List ℕ → Type 0) (len : ℕ) (given given' taken : List ℕ) (ended : Bool) (count count' : ℕ) (error : ToolError) (result : Result Outcome ToolError) → IsErrAnd result (λ e. e ≡ error)
    → (input : List ℕ) → given' ≡ given ++ input → FailsAfter input count count' error → length input ≤ 2 ^ 32 + 1 → RanSized IsText len given given' taken taken ended result
ran-unread IsText len given given' taken ended count count' error (Ok outcome) is input reads fails limit = absurd is
ran-unread IsText len given given' taken ended count count' error (Err e) is input reads fails limit =
    let u = unread IsText ended len count count' error input fails in
    rw is (record { input = input; written = []; reads = reads; writes = sym (append-nil taken); text = u.0; limit = limit; memory = u.1 })
