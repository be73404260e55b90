-- What an engine that reads parts of a file reads and writes, from the contracts of its steps.
use Rattle.std.proofs.Common.{◌≡◌, ℕ, List, ◌++◌, length, Some, None, Result, Ok, Err, false, sym, ◌∙◌, ap, subst}
use Rattle.std.specs.Prelude.{Option}
use Rattle.pe_view.specs.Faults.{first_standing}
use Rattle.pe_head.specs.declared.headers.Headers.{Headers}
use Rattle.pe_head.specs.Head.{head_of}
use Rattle.pe_layout.specs.Image.{image_from, image_of_file}
use Rattle.pe_layout.specs.SectionFaults.{layout_tests}
use Rattle.pe_parts.specs.AtHand.{can_decide_tables}
use Rattle.pe_parts.specs.Packed.{IsPacked}
use Rattle.pe_parts.specs.PackedTables.{AreContentsOf}
use Rattle.pe_parts.specs.declared.tables.PackedTables.{PackedTables}
use Rattle.pe_text.specs.declared.outcome.Outcome.{Outcome}
use Rattle.pe_text.specs.declared.outcome.ToolError.{ToolError}
use Rattle.pe_text.specs.declared.outcome.ToolError.TheVariants.{Read, Write, Memory}
use Rattle.pe_text.specs.Engine.{Puts}
use Rattle.pe_reach.specs.declared.parts_reading.Parts.{Parts}
use Rattle.pe_reach.specs.Parts.{Part, HasParts}
use Rattle.pe_reach.specs.PartsRead.{AreOf, AreUndecided, packed_headers, packed_size}
use Rattle.pe_reach.specs.PartsRan.{IsTextOfTables, RanByParts}

-- what is known of each file with some parts: its headers, that it has none of faults 1 to 15, and its tables
pub record IsRead {A : Type 0} (h : Headers) (tables : PackedTables A) (file : List ℕ) : Type 0 where
  pub headers : head_of file ≡ h
  pub sound : first_standing (layout_tests 0 file) ≡ None
  pub contents : AreContentsOf (image_of_file 0 file) tables

pub are_read : {A : Type 0} (len : ℕ) (read : List Part) (parts : Parts A) (packed : List ℕ) (tables : PackedTables A) → packed ≡ parts.bytes.items
    → ((file : List ℕ) → length file ≡ len → HasParts file read → AreOf parts file)
    → ((file : List ℕ) (h : Headers) → IsPacked file h packed parts.packed → AreContentsOf (image_from 0 h file) tables)
    → (file : List ℕ) → length file ≡ len → HasParts file read → IsRead parts.headers tables file
are_read len read parts packed tables same of contents file size has =
    let are = of file size has in
    record {
      headers = are.headers;
      sound = are.sound;
      contents = subst (λ (h : Headers). AreContentsOf (image_from 0 h file) tables) (sym are.headers)
          (contents file parts.headers (subst (λ (c : List ℕ). IsPacked file parts.headers c parts.packed) (sym same) are.packed));
    }

-- the result of the engine
unfoldable pub some_outcome : Result Outcome ToolError → Result (Option Outcome) ToolError
some_outcome (Ok outcome) = Ok (Some outcome)
some_outcome (Err error) = Err error

pub ran_by_parts : {A : Type 0} (IsText : List ℕ → Outcome → List ℕ → Type 0) (len : ℕ) (parts parts' : List Part) (taken taken' : List ℕ) (count count' : ℕ) (h : Headers) (tables : PackedTables A) (read : List Part) → parts' ≡ parts ++ read
    → ((file : List ℕ) → length file ≡ len → HasParts file read → IsRead h tables file)
    → (result : Result Outcome ToolError) → Puts (IsTextOfTables IsText h tables) taken taken' count count' result → RanByParts IsText len parts parts' taken taken' (some_outcome result)
unfolding some_outcome
ran_by_parts IsText len parts parts' taken taken' count count' h tables read reads known (Ok outcome) puts = record {
  read = read;
  written = puts.0;
  reads = reads;
  writes = puts.1;
  text = λ file size has. let k = known file size has in puts.2.0 file k.headers k.sound k.contents;
}
ran_by_parts IsText len parts parts' taken taken' count count' h tables read reads known (Err Read) puts = absurd puts.2
ran_by_parts IsText len parts parts' taken taken' count count' h tables read reads known (Err Write) puts =
    let begins = puts.2.1 in
    record {
      read = read;
      written = puts.0;
      reads = reads;
      writes = puts.1;
      text = λ file size has. let k = known file size has in (begins.0, (begins.1.0, begins.1.1 file k.headers k.sound k.contents, begins.1.2));
    }
ran_by_parts IsText len parts parts' taken taken' count count' h tables read reads known (Err Memory) puts = record {
  read = read;
  written = puts.0;
  reads = reads;
  writes = puts.1;
  text = puts.2.1;
}

-- parts that do not decide the tables
pub parts_undecided : {A : Type 0} (len : ℕ) (before now read : List Part) (parts : Parts A) (packed : List ℕ) → now ≡ before ++ read → packed ≡ parts.bytes.items
    → ((file : List ℕ) → length file ≡ len → HasParts file read → AreOf parts file) → parts.packed ≡ packed_headers parts.headers len
    → length parts.bytes.items ≡ packed_size parts.headers len → can_decide_tables 0 parts.packed packed ≡ false → AreUndecided len before now
parts_undecided len before now read parts packed reads same of places size fails = record {
  read = read;
  headers = parts.headers;
  bytes = packed;
  reads = reads;
  heads = λ file size has. (of file size has).headers;
  packed = λ file size has. subst (λ (p : Headers). IsPacked file parts.headers packed p) places (subst (λ (c : List ℕ). IsPacked file parts.headers c parts.packed) (sym same) (of file size has).packed);
  size = ap length same ∙ size;
  undecided = ap (λ (p : Headers). can_decide_tables 0 p packed) (sym places) ∙ fails;
}
