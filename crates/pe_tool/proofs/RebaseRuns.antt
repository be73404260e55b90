-- What `rebase` reads and writes, from the contracts of its steps.
use Rattle.std.proofs.Common.{ℕ, ◌≡◌, ◌+◌, ◌^◌, ◌<◌, ◌≤◌, Bool, List, [], ◌∷◌, ◌++◌, length, take, drop, None, Some, Result, Ok, Err, refl, sym, subst, inl, inr, append-nil, arith}
use Rattle.std.proofs.lemmas.List.{take-append-drop}
use Rattle.pe_view.specs.declared.fault.Fault.{Fault}
use Rattle.pe_view.specs.declared.fault.Place.TheVariants.{File}
use Rattle.pe_view.specs.Faults.{first_standing}
use Rattle.pe_view.specs.FirstStanding.{first-in}
use Rattle.pe_head.specs.Head.{head_of}
use Rattle.pe_head.specs.HeaderFaults.{head_tests}
use Rattle.pe_layout.specs.Image.{image_of_file}
use Rattle.pe_layout.specs.SectionFaults.{layout_tests, placing_tests}
use Rattle.pe_image.specs.ImageTests.{relocation_tests}
use Rattle.pe_tables.specs.Fixups.{fixups_of}
use Rattle.pe_write.specs.Summed.{rebased_as}
use Rattle.pe_write.specs.RebaseFaults.{rebase_tests, own_base_tests, data_tests}
use Rattle.pe_view.specs.declared.refusal.Refusal.{Refusal}
use Rattle.pe_text.specs.declared.outcome.Outcome.{Outcome}
use Rattle.pe_text.specs.declared.outcome.ToolError.{ToolError}
use Rattle.pe_text.specs.declared.outcome.ToolError.TheVariants.{Read, Write, Memory}
use Rattle.pe_text.specs.declared.text_writer.TextWriter.{TextWriter}
use Rattle.pe_text.specs.Engine.{IsWhole}
use Rattle.pe_tool.specs.RebaseRun.{IsOutcome, Output, Gets, PutsLine, RebaseRan, outcome_bytes, outcome_line}
use Rattle.pe_text.specs.TextWriter.{IsBeginning, IsFresh, Stands, Adds}
use Rattle.pe_text.proofs.Adding.{Stands-fresh}
use Rattle.pe_text.proofs.Reports.{since}

module _ {W : Type 0} (taken : W → List ℕ) (failures : W → ℕ) (base : ℕ) (outcome : Outcome) where
  -- the line was written
  pub line_whole : (a b c : TextWriter W) (w v : W) → IsFresh w a → Adds taken failures a b (outcome_line base outcome)
      → ((start text : List ℕ) (count : ℕ) → Stands taken failures b start text count → (taken c.writer.now ≡ text) × (failures c.writer.now ≡ count))
      → v ≡ c.writer.now → PutsLine base outcome (record { taken = taken w; taken' = taken v; count = failures w; count' = failures v }) (Ok outcome)
  line_whole a b c w v fresh adds ends is =
      let e = ends (taken w) (taken w ++ outcome_line base outcome) (failures w) (adds.text _ _ _ (Stands-fresh taken failures a w fresh)) in
      (refl, (rw is e.0, rw is e.1))

  -- a beginning of it was written
  pub line_part : (a b c : TextWriter W) (w v : W) → IsFresh w a → Adds taken failures a b (outcome_line base outcome)
      → ((start text : List ℕ) (count : ℕ) → Stands taken failures b start text count
      → IsBeginning start (taken c.writer.now) × IsBeginning (taken c.writer.now) text × (failures c.writer.now ≡ count + 1))
      → v ≡ c.writer.now → PutsLine base outcome (record { taken = taken w; taken' = taken v; count = failures w; count' = failures v }) (Err Write)
  line_part a b c w v fresh adds ends is =
      let e = ends (taken w) (taken w ++ outcome_line base outcome) (failures w) (adds.text _ _ _ (Stands-fresh taken failures a w fresh)) in
      let s = since (taken w) (taken c.writer.now) (outcome_line base outcome) e.0 e.1 in
      (s.0, rw is s.1, s.2, rw is e.2)

-- an output that got nothing
abbrev idle : List ℕ → ℕ → Output
idle taken count = record { taken = taken; taken' = taken; count = count; count' = count }

got_none : (taken : List ℕ) (count : ℕ) → Gets (idle taken count) []
got_none taken count = (sym (append-nil taken), refl)

module _ (check_sum : Bool) (base : ℕ) (given given' : List ℕ) (ended : Bool) where
  module _ (input : List ℕ) (reads : given' ≡ given ++ input) (limit : length input ≤ 2 ^ 32 + 1) where
    -- memory ran out
    pub ran_out_of_memory : (to t : List ℕ) (o w : ℕ) → 0 < length input → RebaseRan check_sum base given given' (idle to o) (idle t w) ended (Err Memory)
    ran_out_of_memory to t o w some = record { input = input; reads = reads; writes = (got_none to o, got_none t w); limit = limit; whole = tt; memory = λ _. some }

    module _ (whole : IsWhole ended input) where
      -- the line was written after `out` got its bytes
      pub ran_told : (outcome : Outcome) (out writer : Output) (result : Result Outcome ToolError) → IsOutcome input base outcome → Gets out (outcome_bytes check_sum input base outcome) → PutsLine base outcome writer result
          → RebaseRan check_sum base given given' out writer ended result
      ran_told outcome out writer (Ok told) is got puts = rw puts.0 (record { input = input; reads = reads; writes = (is, got, puts.1); limit = limit; whole = whole; memory = λ e. cc })
      ran_told outcome out writer (Err Read) is got puts = absurd puts
      ran_told outcome out writer (Err Write) is got puts = record { input = input; reads = reads; writes = inr (outcome, is, got, puts); limit = limit; whole = whole; memory = λ e. cc }
      ran_told outcome out writer (Err Memory) is got puts = absurd puts

      -- a write of the new file failed
      pub ran_short : (out : Output) (t : List ℕ) (w : ℕ) (bytes : List ℕ) → first_standing (rebase_tests input base) ≡ None → bytes ≡ rebased_as check_sum input base
          → ((k : ℕ) × (out.taken' ≡ out.taken ++ take k bytes)) × (out.count' ≡ out.count + 1) → RebaseRan check_sum base given given' out (idle t w) ended (Err Write)
      ran_short out t w bytes none is wrote =
          let part : List ℕ = take wrote.0.0 bytes in
          record { input = input; reads = reads; writes = inl (none, (part, wrote.0.1, (drop wrote.0.0 bytes, sym is_all), wrote.1), got_none t w); limit = limit; whole = whole; memory = λ e. cc }
        where
          is_all : take wrote.0.0 bytes ++ drop wrote.0.0 bytes ≡ rebased_as check_sum input base
          is_all = subst (λ (xs : List ℕ). take wrote.0.0 bytes ++ drop wrote.0.0 bytes ≡ xs) is (take-append-drop wrote.0.0 bytes)

-- a fault of the headers is the first of all
pub size_refused : (file : List ℕ) (base : ℕ) (fault : Fault) → first_standing (head_tests 0 file) ≡ Some fault → first_standing (rebase_tests file base) ≡ Some fault
unfolding rebase_tests
size_refused file base fault is =
    let h = head_of file in
    let i = image_of_file 0 file in
    first-in (layout_tests 0 file) (relocation_tests i ++ (own_base_tests h.magic i base ++ data_tests h (fixups_of i))) fault
    (first-in (head_tests 0 file) (placing_tests 0 h (length file)) fault is)

-- memory runs out only for a file that is not empty
pub some_bytes : (file : List ℕ) {V : Type 0} (result : Result V Refusal) → ((fault : Fault) → first_standing (layout_tests 0 file) ≡ Some fault → result ≡ Err (Refusal.Fault fault)) → result ≡ Err Refusal.Memory → 0 < length file
unfolding head_tests
some_bytes [] result early is = let fault : Fault = record { number = 2; image = 0; place = File 0 } in let e = early fault refl in absurd cc
some_bytes (x ∷ xs) result early is = omega arith
