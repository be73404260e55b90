-- What `json` reads and writes, from the contracts of its steps.
use Rattle.std.proofs.Common.{◌≡◌, ℕ, ◌+◌, ◌^◌, ◌<◌, ◌≤◌, Bool, List, [], ◌++◌, length, Some, None, Result, Ok, Err, ◌∙◌, sym, subst, inl, inr, refl, append-nil}
use Rattle.std.specs.Prelude.{IsErrOf, IsErrAnd, Option}
use Rattle.pe_view.specs.declared.fault.Fault.{Fault}
use Rattle.pe_view.specs.Faults.{first_standing}
use Rattle.pe_image.specs.ImageTests.{image_tests}
use Rattle.pe_text.specs.declared.outcome.Outcome.{Outcome}
use Rattle.pe_text.specs.declared.outcome.Outcome.TheVariants.{Done, Refused}
use Rattle.pe_text.specs.declared.outcome.ToolError.{ToolError}
use Rattle.pe_text.specs.declared.outcome.ToolError.TheVariants.{Read, Write, Memory}
use Rattle.pe_text.specs.Engine.{IsWhole, FailsAfter, OnJudged, Puts, Written, Ran}
use Rattle.pe_reach.specs.Reach.{SameAnswers}
use Rattle.pe_reach.specs.Views.{LookAlike, IsSeen, IsViewed, RefuseView}
use Rattle.pe_reach.specs.Sized.{IsKnown}
use Rattle.pe_json.specs.declared.beyond.Beyond.{Beyond}
use Rattle.pe_json.specs.FileLine.{accepted_line, file_line}
use Rattle.pe_json.specs.JsonReport.{file_tests, IsLine, IsLineOf, IsUnreadLine, IsTold, RanSized}
use Rattle.pe_json.proofs.SameLines.{alike_lines}

-- what was written, by the result
written_by : (IsText : Outcome → List ℕ → Type 0) (before now : List ℕ) (count count' : ℕ) (result : Result Outcome ToolError) → Puts IsText before now count count' result
    → (written : List ℕ) × (now ≡ before ++ written) × Written IsText result written
written_by IsText before now count count' (Ok outcome) puts = (puts.0, puts.1, puts.2.0)
written_by IsText before now count count' (Err Read) puts = absurd puts.2
written_by IsText before now count count' (Err Write) puts = (puts.0, puts.1, puts.2.1)
written_by IsText before now count count' (Err Memory) puts = (puts.0, puts.1, puts.2.1)

on_judged : (result : Result Outcome ToolError) (P : Type 0) → P → OnJudged result P
on_judged (Ok outcome) P p = p
on_judged (Err Read) P p = tt
on_judged (Err Write) P p = p
on_judged (Err Memory) P p = tt

-- an engine that read its file whole
pub ran_whole : (beyond : Option Beyond) (name given given' taken taken' : List ℕ) (ended : Bool) (count count' told : ℕ) (result : Result Outcome ToolError) (bytes input : List ℕ) → bytes ≡ input → told ≡ length input
    → given' ≡ given ++ input → IsWhole ended input → length input ≤ 2 ^ 32 + 1 → Puts (IsLine beyond name told bytes) taken taken' count count' result → (IsErrOf result Memory → 0 < length bytes)
    → Ran (IsLineOf beyond name) given given' taken taken' ended result
ran_whole beyond name given given' taken taken' ended count count' told result bytes input same size reads whole limit puts memory =
    let put : Puts (IsLineOf beyond name input) taken taken' count count' result = rw (same, size) at puts in
    let written = written_by (IsLineOf beyond name input) taken taken' count count' result put in
    record {
      input = input;
      written = written.0;
      reads = reads;
      writes = written.1;
      text = written.2;
      limit = limit;
      whole = on_judged result (IsWhole ended input) whole;
      memory = subst (λ (xs : List ℕ). IsErrOf result Memory → 0 < length xs) same memory;
    }

-- one whose reading failed
pub unread : (beyond : Option Beyond) (name : List ℕ) (len : ℕ) (given given' taken : List ℕ) (ended : Bool) (count count' : ℕ) (error : ToolError) (result : Result Outcome ToolError) → IsErrAnd result (λ e. e ≡ error)
    → (input : List ℕ) × (given' ≡ given ++ input) × FailsAfter input count count' error × (length input ≤ 2 ^ 32 + 1) → RanSized beyond name len given given' taken taken ended result
unread beyond name len given given' taken ended count count' error (Ok outcome) is read = absurd is
unread beyond name len given given' taken ended count count' Read (Err e) is read =
    rw is (record { input = read.0; told = 0; refused = None; written = []; reads = read.1; writes = sym (append-nil taken); text = refl; known = tt; seen = tt; limit = read.3; memory = λ is. cc })
unread beyond name len given given' taken ended count count' Write (Err e) is read = absurd read.2
unread beyond name len given given' taken ended count count' Memory (Err e) is read =
    rw is (record { input = read.0; told = 0; refused = None; written = []; reads = read.1; writes = sym (append-nil taken); text = refl; known = tt; seen = tt; limit = read.3; memory = λ is. read.2.0 })

-- what was read, by the fault of its first bytes
pub seen_view : (ended : Bool) (len told : ℕ) (input : List ℕ) (refused : Option Fault) → IsViewed ended len input told refused → refused ≡ None → IsSeen ended len input told
seen_view ended len told input refused viewed is = subst (λ (fault : Option Fault). IsViewed ended len input told fault) is viewed

pub refused_view : (ended : Bool) (len told : ℕ) (input : List ℕ) (refused : Option Fault) (fault : Fault) → IsViewed ended len input told refused → refused ≡ Some fault → RefuseView len input fault × (told ≡ len)
refused_view ended len told input refused fault viewed is = subst (λ (fault : Option Fault). IsViewed ended len input told fault) is viewed

-- one that refused a file by its first bytes
refused_by : (beyond : Option Beyond) (name : List ℕ) (len told : ℕ) (given given' taken taken' : List ℕ) (ended : Bool) (count count' : ℕ) (result : Result Outcome ToolError) (input : List ℕ) (fault : Fault)
    → given' ≡ given ++ input → RefuseView len input fault × (told ≡ len) → length input ≤ 2 ^ 32 + 1 → Puts (IsUnreadLine name told input fault) taken taken' count count' result → (IsErrOf result Memory → ⊥)
    → RanSized beyond name len given given' taken taken' ended result
refused_by beyond name len told given given' taken taken' ended count count' (Ok outcome) input fault reads seen limit puts never = record {
  input = input;
  told = told;
  refused = Some fault;
  written = puts.0;
  reads = reads;
  writes = puts.1;
  text = puts.2.0;
  known = inr (λ file b. rw puts.2.0.0 (seen.0 file b));
  seen = seen;
  limit = limit;
  memory = λ is. absurd (never is);
}
refused_by beyond name len told given given' taken taken' ended count count' (Err Read) input fault reads seen limit puts never = absurd puts.2
refused_by beyond name len told given given' taken taken' ended count count' (Err Write) input fault reads seen limit puts never = record {
  input = input;
  told = told;
  refused = Some fault;
  written = puts.0;
  reads = reads;
  writes = puts.1;
  text = puts.2.1;
  known = tt;
  seen = seen;
  limit = limit;
  memory = λ is. absurd (never is);
}
refused_by beyond name len told given given' taken taken' ended count count' (Err Memory) input fault reads seen limit puts never = absurd (never refl)

pub ran_refused : (beyond : Option Beyond) (name : List ℕ) (len told : ℕ) (given given' taken taken' : List ℕ) (ended : Bool) (count count' : ℕ) (result : Result Outcome ToolError) (bytes input : List ℕ) (size : ℕ) (fault : Fault)
    → bytes ≡ input → size ≡ told → given' ≡ given ++ input → RefuseView len input fault × (told ≡ len) → length input ≤ 2 ^ 32 + 1 → Puts (IsUnreadLine name size bytes fault) taken taken' count count' result
    → (IsErrOf result Memory → ⊥) → RanSized beyond name len given given' taken taken' ended result
ran_refused beyond name len told given given' taken taken' ended count count' result bytes input size fault same is reads seen limit puts never =
    refused_by beyond name len told given given' taken taken' ended count count' result input fault reads seen limit (rw (same, is) at puts) never

-- what is told of the bytes that were read is told of the file
told_whole : (beyond : Option Beyond) (name : List ℕ) (told : ℕ) (file : List ℕ) (outcome : Outcome) (text : List ℕ) → IsLine beyond name told file outcome text → IsTold beyond name outcome text file
told_whole beyond name told file Done text is = (is.0, is.1 ∙ told_done beyond name told file)
  where
    told_done : (beyond : Option Beyond) (name : List ℕ) (told : ℕ) (file : List ℕ) → file_line beyond name told file Done ≡ accepted_line beyond name file
    told_done beyond name told file = refl
told_whole beyond name told file (Refused fault) text is = is.0

-- an engine that read so much of its file that its line is known
ran_known : (beyond : Option Beyond) (name : List ℕ) (len told : ℕ) (given given' taken taken' : List ℕ) (ended : Bool) (count count' : ℕ) (result : Result Outcome ToolError) (input : List ℕ)
    → given' ≡ given ++ input → IsSeen ended len input told
    → ((outcome : Outcome) (text : List ℕ) → IsLine beyond name told input outcome text → IsKnown ended len input (IsTold beyond name outcome text))
    → length input ≤ 2 ^ 32 + 1 → Puts (IsLine beyond name told input) taken taken' count count' result → (IsErrOf result Memory → 0 < length input)
    → RanSized beyond name len given given' taken taken' ended result
ran_known beyond name len told given given' taken taken' ended count count' (Ok outcome) input reads seen known limit puts memory = record {
  input = input;
  told = told;
  refused = None;
  written = puts.0;
  reads = reads;
  writes = puts.1;
  text = puts.2.0;
  known = known outcome puts.0 puts.2.0;
  seen = seen;
  limit = limit;
  memory = memory;
}
ran_known beyond name len told given given' taken taken' ended count count' (Err Read) input reads seen known limit puts memory = absurd puts.2
ran_known beyond name len told given given' taken taken' ended count count' (Err Write) input reads seen known limit puts memory = record {
  input = input;
  told = told;
  refused = None;
  written = puts.0;
  reads = reads;
  writes = puts.1;
  text = puts.2.1;
  known = tt;
  seen = seen;
  limit = limit;
  memory = memory;
}
ran_known beyond name len told given given' taken taken' ended count count' (Err Memory) input reads seen known limit puts memory = record {
  input = input;
  told = told;
  refused = None;
  written = puts.0;
  reads = reads;
  writes = puts.1;
  text = puts.2.1;
  known = tt;
  seen = tt;
  limit = limit;
  memory = memory;
}

-- one that read its file whole
pub ran_rest : (beyond : Option Beyond) (name : List ℕ) (len told : ℕ) (given given' taken taken' : List ℕ) (ended : Bool) (count count' : ℕ) (result : Result Outcome ToolError) (bytes input : List ℕ)
    → bytes ≡ input → told ≡ length bytes → given' ≡ given ++ input → IsWhole ended bytes → length input ≤ 2 ^ 32 + 1 → Puts (IsLine beyond name told bytes) taken taken' count count' result
    → (IsErrOf result Memory → 0 < length bytes) → RanSized beyond name len given given' taken taken' ended result
ran_rest beyond name len told given given' taken taken' ended count count' result bytes input same size reads whole limit puts memory =
    ran_known beyond name len told given given' taken taken' ended count count' result bytes (subst (λ (xs : List ℕ). given' ≡ given ++ xs) (sym same) reads) (inl (whole, size))
    (λ outcome text is. inl (whole, told_whole beyond name told bytes outcome text is)) (subst (λ (xs : List ℕ). length xs ≤ 2 ^ 32 + 1) (sym same) limit) puts memory

module _ (first : (number : ℕ) (f g : List ℕ) → SameAnswers f g → first_standing (image_tests number f) ≡ first_standing (image_tests number g)) where
  -- a file that begins with `MZ` is tested as an image
  same_tests : (f g : List ℕ) → LookAlike f g → first_standing (file_tests f) ≡ first_standing (file_tests g)
  same_tests f g look = rw (look.kind_f, look.kind_g) (first 0 f g look.answers)

  -- what is told of bytes is told of each file that looks like them
  told_alike : (name f g : List ℕ) → LookAlike f g → (outcome : Outcome) (text : List ℕ) → IsTold None name outcome text g → IsTold None name outcome text f
  told_alike name f g look Done text is = (same_tests f g look ∙ is.0, is.1 ∙ sym (alike_lines name f g look))
  told_alike name f g look (Refused fault) text is = same_tests f g look ∙ is

  known : (name : List ℕ) (ended : Bool) (len told : ℕ) (input : List ℕ) → IsSeen ended len input told → (outcome : Outcome) (text : List ℕ) → IsLine None name told input outcome text
      → IsKnown ended len input (IsTold None name outcome text)
  known name ended len told input (inl whole) outcome text is = inl (whole.0, told_whole None name told input outcome text is)
  known name ended len told input (inr shown) outcome text is = inr (λ file b. told_alike name file input (shown.0 file b) outcome text (told_whole None name told input outcome text is))

  -- an engine that read what a view shows of its file
  pub ran : (name : List ℕ) (len told : ℕ) (given given' taken taken' : List ℕ) (ended : Bool) (count count' : ℕ) (result : Result Outcome ToolError) (bytes input : List ℕ) (size : ℕ)
      → bytes ≡ input → size ≡ told → given' ≡ given ++ input → IsSeen ended len input told → length input ≤ 2 ^ 32 + 1 → Puts (IsLine None name size bytes) taken taken' count count' result
      → (IsErrOf result Memory → 0 < length bytes) → RanSized None name len given given' taken taken' ended result
  ran name len told given given' taken taken' ended count count' result bytes input size same is reads seen limit puts memory =
      ran_known None name len told given given' taken taken' ended count count' result input reads seen (known name ended len told input seen) limit (rw (same, is) at puts)
      (subst (λ (xs : List ℕ). IsErrOf result Memory → 0 < length xs) same memory)
