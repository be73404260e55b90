-- What is found, test by test.
use Rattle.std.proofs.Common.{◌≡◌, ◌∙◌, refl, ℕ, suc, Bool, true, false, List, [], ◌∷◌, ◌++◌, sym, ap, append_assoc, length, not}
use Rattle.std.specs.Prelude.{if◌then◌else◌, is_some, Option, Some, None}
use Rattle.pe_view.specs.Faults.{Test}
use Rattle.pe_view.specs.declared.fault.Fault.{Fault}
use Rattle.pe_view.specs.AllStanding.{both_found, standing-append}
use Rattle.pe_view.specs.Standing.{standing}
use Rattle.pe_version.specs.Block.{has_key_end, body_of}
use Rattle.pe_version.specs.Blocks.{is_block, block_end, aligned}
use Rattle.pe_version.specs.Findings.{finding, end_tests, is_read, block_tests, level_tests, version_tests}
use Rattle.pe_version.specs.FixedInfo.{has_fixed_info}
use Rattle.pe_version.specs.Root.{files_at, files_end}
use Rattle.pe_version.proofs.Stepping.{step, stop}

module _ (image rva : ℕ) (bytes : List ℕ) (levels below end at : ℕ) (deep : levels ≡ suc below) where
  -- the levels of a block, and of those after it
  pub levels_step : is_block bytes end at ≡ true
      → level_tests image rva bytes levels end at
      ≡ block_tests image rva bytes below (level_tests image rva bytes below) (at, block_end bytes at) ++ level_tests image rva bytes levels end (aligned (block_end bytes at))
  levels_step is = rw deep (step (block_tests image rva bytes below (level_tests image rva bytes below)) (end_tests image rva bytes end) bytes end at is)

  pub levels_stop : is_block bytes end at ≡ false → level_tests image rva bytes levels end at ≡ end_tests image rva bytes end at
  levels_stop none = rw deep (stop (block_tests image rva bytes below (level_tests image rva bytes below)) (end_tests image rva bytes end) bytes end at none)

  -- a block whose tests were found
  pub block_found : (old new whole : List Fault) → is_block bytes end at ≡ true
      → old ++ standing (level_tests image rva bytes levels end at) ≡ whole
      → new ≡ old ++ standing (block_tests image rva bytes below (level_tests image rva bytes below) (at, block_end bytes at))
      → new ++ standing (level_tests image rva bytes levels end (aligned (block_end bytes at))) ≡ whole
  block_found old new whole is before after =
      let tests = block_tests image rva bytes below (level_tests image rva bytes below) (at, block_end bytes at) in
      let later = level_tests image rva bytes levels end (aligned (block_end bytes at)) in
      ap (λ (fs : List Fault). fs ++ standing later) after
      ∙ append_assoc old (standing tests) (standing later)
      ∙ ap (λ (fs : List Fault). old ++ fs) (sym (standing-append tests later) ∙ ap (λ (ts : List Test). standing ts) (sym (levels_step is)))
      ∙ before

-- the levels of blocks in a block are read, or none
levels_read : (image rva : ℕ) (bytes : List ℕ) (below end at : ℕ) (read : Bool)
    → level_tests image rva bytes (if read then below else 0) end at ≡ (if read then level_tests image rva bytes below end at else [])
levels_read image rva bytes below end at true = refl
levels_read image rva bytes below end at false = refl

-- a block whose key and inner blocks were tested, as the code has it
pub inner_found : (image rva : ℕ) (bytes : List ℕ) (below : ℕ) (b : ℕ × ℕ) (old middle new : List Fault) (start : ℕ) (ended : Bool) (inner : ℕ) (bytes' : List ℕ) (end at : ℕ)
    → start ≡ b.0 → ended ≡ has_key_end bytes b → inner ≡ (if is_read bytes below b then below else 0)
    → bytes' ≡ bytes → end ≡ b.1 → at ≡ body_of bytes b
    → middle ≡ old ++ standing (finding image rva 213 start (not ended) ∷ [])
    → new ≡ middle ++ standing (level_tests image rva bytes' inner end at)
    → new ≡ old ++ standing (block_tests image rva bytes below (level_tests image rva bytes below) b)
inner_found image rva bytes below b old middle new start ended inner bytes' end at start_is ended_is inner_is bytes_is end_is at_is first second =
    let key : List Test = finding image rva 213 b.0 (not (has_key_end bytes b)) ∷ [] in
    both_found key (if is_read bytes below b then level_tests image rva bytes below b.1 (body_of bytes b) else []) old middle new
    (rw (start_is, ended_is) at first)
    (rw (bytes_is, inner_is, end_is, at_is) at second ∙ ap (λ (ts : List Test). middle ++ standing ts) (levels_read image rva bytes below b.1 (body_of bytes b) (is_read bytes below b)))

-- there is no value without its condition
pub none_if : {X : Type 0} (b r : Bool) (x : X) (o : Option X) → not r ≡ is_some o → o ≡ (if b then Some x else None) → r ≡ not b
none_if b r x o told is = by_some b r x (told ∙ ap is_some is)
  where
    by_some : {X : Type 0} (b r : Bool) (x : X) → not r ≡ is_some (if b then Some x else None) → r ≡ not b
    by_some true true x told = absurd cc
    by_some true false x told = refl
    by_some false true x told = refl
    by_some false false x told = absurd cc

-- all of version information, as the code has it
pub first_found : (image rva : ℕ) (bytes bytes' : List ℕ) (size : ℕ) (bytes'' : List ℕ) (end at : ℕ) (none : Bool) (start first second third : List Fault)
    → start ≡ [] → none ≡ not (has_fixed_info bytes) → bytes' ≡ bytes → size ≡ length bytes → bytes'' ≡ bytes → end ≡ files_end bytes → at ≡ files_at bytes
    → first ≡ start ++ standing (finding image rva 211 0 none ∷ [])
    → second ≡ first ++ standing (end_tests image rva bytes' size 0)
    → third ≡ second ++ standing (level_tests image rva bytes'' 3 end at)
    → third ≡ standing (version_tests image rva bytes)
first_found image rva bytes bytes' size bytes'' end at none start first second third start_is none_is bytes_is size_is bytes_are end_is at_is one two three =
    let key : List Test = finding image rva 211 0 (not (has_fixed_info bytes)) ∷ [] in
    let ends : List Test = end_tests image rva bytes (length bytes) 0 in
    let levels : List Test = level_tests image rva bytes 3 (files_end bytes) (files_at bytes) in
    both_found key (ends ++ levels) [] first third
    (rw (start_is, none_is) at one)
    (both_found ends levels first second third (rw (bytes_is, size_is) at two) (rw (bytes_are, end_is, at_is) at three))
