-- What `json_parts` reads and writes, from the contracts of its steps.
use Rattle.std.proofs.Common.{◌≡◌, ◌≤◌, inr, ℕ, List, [], ◌++◌, length, map, Option, None, Some, Result, Ok, Err, refl, sym, ap, subst, ◌∙◌, append-nil}
use Rattle.std.specs.Prelude.{Bool, false, max, if◌then◌else◌, IfOk, IfNone}
use Rattle.coff_read.specs.ImageNames.{image_strings, section_name}
use Rattle.pe_head.specs.Head.{head_of}
use Rattle.pe_head.specs.declared.headers.Headers.{Headers}
use Rattle.pe_layout.specs.Image.{LaidOut, image_from, image_of_file}
use Rattle.pe_tables.specs.Exports.{Exports, exports_of}
use Rattle.pe_tables.specs.ExportsView.{exports_view}
use Rattle.pe_tables.specs.Imports.{Import, imports_of}
use Rattle.pe_tables.specs.ImportView.{import_view}
use Rattle.pe_tables.specs.Fixups.{fixups_of}
use Rattle.pe_tables.specs.declared.fixups.Fixup.{Fixup}
use Rattle.pe_parts.specs.AtHand.{can_decide_tables}
use Rattle.pe_parts.specs.Packed.{IsPacked}
use Rattle.pe_parts.specs.PackedTables.{AreContentsOf}
use Rattle.pe_parts.specs.declared.tables.PackedTables.{PackedTables}
use Rattle.pe_text.specs.declared.outcome.Outcome.{Outcome}
use Rattle.pe_text.specs.declared.outcome.ToolError.{ToolError}
use Rattle.pe_text.specs.declared.outcome.ToolError.TheVariants.{Read, Write, Memory}
use Rattle.pe_text.specs.Engine.{Puts}
use Rattle.pe_reach.specs.declared.parts_reading.Parts.{Parts}
use Rattle.pe_reach.specs.Parts.{Part, HasParts}
use Rattle.pe_reach.specs.PartsRan.{RanByParts}
use Rattle.pe_reach.specs.PartNames.{with_strings, AreNotNamed, AreWithNames}
use Rattle.pe_reach.specs.PartsRead.{AreOf, names_in, packed_headers, packed_size}
use Rattle.pe_reach.specs.Views.{names_under}
use Rattle.pe_json.specs.FileLine.{accepted_image}
use Rattle.pe_json.specs.ImageLine.{image_line}
use Rattle.pe_json.specs.ObjectLine.{object_line}
use Rattle.pe_json.specs.JsonByParts.{IsImageLine, IsLineOfParts, PutsParts, HaveNoNames, IsLeft}
use Rattle.pe_json.specs.JsonReport.{IsLineOf}
use Rattle.pe_json.proofs.NoObject.{no_object, no_fault}
use Rattle.pe_json.proofs.SameLines.{same_line}

-- texts that follow from others
pub puts_follow : (IsText IsOther : Outcome → List ℕ → Type 0) → ((outcome : Outcome) (text : List ℕ) → IsText outcome text → IsOther outcome text)
    → (before now : List ℕ) (count count' : ℕ) (result : Result Outcome ToolError) → Puts IsText before now count count' result → Puts IsOther before now count count' result
puts_follow IsText IsOther follow before now count count' (Ok outcome) puts = (puts.0, puts.1, (follow outcome puts.0 puts.2.0, puts.2.1))
puts_follow IsText IsOther follow before now count count' (Err Read) puts = absurd puts.2
puts_follow IsText IsOther follow before now count count' (Err Write) puts =
    let begins = puts.2.1 in (puts.0, puts.1, (puts.2.0, (begins.0, (begins.1.0, follow begins.0 begins.1.0 begins.1.1, begins.1.2))))
puts_follow IsText IsOther follow before now count count' (Err Memory) puts = puts

module _ {A : Type 0} (name : List ℕ) (parts : Parts A) where
  -- the line from headers and tables is the image's
  image_by : (file : List ℕ) (strings : Option (List ℕ)) (exports : Exports) (imports : List Import) (fixups : List Fixup) (i : LaidOut) → head_of file ≡ parts.headers
      → map (λ section. section_name strings section.name) parts.headers.sections.items ≡ names_under file (head_of file)
      → exports ≡ exports_of i → imports ≡ imports_of i → fixups ≡ fixups_of i
      → image_line name strings parts.headers exports imports fixups [] ≡ accepted_image None name file i
  image_by file strings exports imports fixups i heads names is_exports is_imports is_fixups =
      same_line name strings (image_strings file (head_of file)) parts.headers exports imports fixups [] (names ∙ ap (λ (h : Headers). names_under_by h) heads)
      ∙ (λ j. image_line name (image_strings file (head_of file)) (sym heads j) (is_exports j) (is_imports j) (is_fixups j) [])
    where
      names_under_by : Headers → List (List ℕ)
      names_under_by h = map (λ section. section_name (image_strings file (head_of file)) section.name) h.sections.items

  -- the line of each file with the parts
  pub line_of_parts : (strings : Option (List ℕ)) (packed : List ℕ) (tables : PackedTables A) (imports : List Import) (fixups : List Fixup) → packed ≡ parts.bytes.items
      → imports ≡ map import_view tables.imports.items → fixups ≡ tables.fixups.items → strings ≡ image_strings parts.bytes.items parts.packed
      → ((file : List ℕ) (h : Headers) → IsPacked file h packed parts.packed → AreContentsOf (image_from 0 h file) tables)
      → (outcome : Outcome) (text : List ℕ) → IsImageLine name strings parts.headers (exports_view tables.exports) imports fixups outcome text
      → IsLineOfParts name parts outcome text
  line_of_parts strings packed tables imports fixups same is_imports is_fixups table contents outcome text is = λ file are named.
      let its : AreContentsOf (image_of_file 0 file) tables =
      subst (λ (h : Headers). AreContentsOf (image_from 0 h file) tables) (sym are.headers)
      (contents file parts.headers (subst (λ (c : List ℕ). IsPacked file parts.headers c parts.packed) (sym same) are.packed)) in
      let none = no_fault file are.sound its.sound in
      let image = image_by file strings (exports_view tables.exports) imports fixups (image_of_file 0 file) are.headers (rw (← table) at named) its.exports (is_imports ∙ its.imports) (is_fixups ∙ its.fixups) in
      let line = is.1 ∙ image ∙ sym (ap (λ (b : Bool). if b then object_line name file else accepted_image None name file (image_of_file 0 file)) (no_object file are.sound)) in
      rw is.0 (none, line)

-- the result of the engine
pub ran_by_parts : {A : Type 0} (name : List ℕ) (len : ℕ) (ps ps' : List Part) (taken taken' : List ℕ) (count count' : ℕ) (parts : Parts A) (read : List Part) → ps' ≡ ps ++ read
    → ((file : List ℕ) → length file ≡ len → HasParts file read → AreOf parts file)
    → ((file : List ℕ) → length file ≡ len → HasParts file read → names_in parts ≡ names_under file (head_of file))
    → (result : Result (Option Outcome) ToolError) → PutsParts name parts taken taken' count count' result → RanByParts (IsLineOf None name) len ps ps' taken taken' result
ran_by_parts name len ps ps' taken taken' count count' parts read reads of named (Ok (Some outcome)) puts = record {
  read = read;
  written = puts.0;
  reads = reads;
  writes = puts.1;
  text = λ file size has. puts.2.0 file (of file size has) (named file size has);
}
ran_by_parts name len ps ps' taken taken' count count' parts read reads of named (Ok None) puts = record {
  read = read;
  written = [];
  reads = reads;
  writes = puts.0 ∙ sym (append-nil taken);
  text = refl;
}
ran_by_parts name len ps ps' taken taken' count count' parts read reads of named (Err Read) puts = absurd puts.2
ran_by_parts name len ps ps' taken taken' count count' parts read reads of named (Err Write) puts =
    let begins = puts.2.1 in
    record {
      read = read;
      written = puts.0;
      reads = reads;
      writes = puts.1;
      text = λ file size has. (begins.0, (begins.1.0, begins.1.1 file (of file size has) (named file size has), begins.1.2));
    }
ran_by_parts name len ps ps' taken taken' count count' parts read reads of named (Err Memory) puts = record {
  read = read;
  written = puts.0;
  reads = reads;
  writes = puts.1;
  text = puts.2.1;
}

-- an option that is not one of the values is none
pub none_is : {X : Type 0} (o : Option X) → ((x : X) → o ≡ Some x → ⊥) → o ≡ None
none_is None other = refl
none_is (Some x) other = absurd (other x refl)

-- parts behind which the string table could not be put
pub have_no_names : {A : Type 0} (len : ℕ) (before middle now read : List Part) (parts : Parts A) → middle ≡ before ++ read
    → ((file : List ℕ) → length file ≡ len → HasParts file read → AreOf parts file) → parts.packed ≡ packed_headers parts.headers len
    → length parts.bytes.items ≡ packed_size parts.headers len → AreNotNamed len parts.headers (length parts.bytes.items) middle now → HaveNoNames len before now
have_no_names len before middle now read parts reads of places size reason = record {
  headers = parts.headers;
  bytes = parts.bytes.items;
  parts = middle;
  were_read = record {
    read = read;
    reads = reads;
    heads = λ file is has. (of file is has).headers;
    packed = λ file is has. subst (λ (p : Headers). IsPacked file parts.headers parts.bytes.items p) places (of file is has).packed;
  };
  size = size;
  reason = reason;
}

-- parts with names that do not decide the tables
pub do_not_decide : {A : Type 0} (name : List ℕ) (len : ℕ) (before now : List Part) (taken taken' : List ℕ) (count count' : ℕ) (read : List Part) (parts named : Parts A)
    → now ≡ before ++ read → named.headers ≡ parts.headers → parts.packed ≡ packed_headers parts.headers len
    → length parts.bytes.items ≡ packed_size parts.headers len → AreWithNames len parts named
    → ((file : List ℕ) → length file ≡ len → HasParts file read → AreOf named file)
    → (result : Result (Option Outcome) ToolError) → PutsParts name named taken taken' count count' result
    → IfOk result (λ outcome. IfNone outcome (IsLeft len before now))
do_not_decide name len before now taken taken' count count' read parts named reads heads places size with of (Ok (Some outcome)) puts = tt
do_not_decide name len before now taken taken' count count' read parts named reads heads places size with of (Err error) puts = tt
do_not_decide name len before now taken taken' count count' read parts named reads heads places size with of (Ok None) puts =
    let packed : named.packed ≡ with_strings (packed_headers parts.headers len) named.packed.pointer_to_symbol_table =
    with.packed ∙ ap (λ (p : Headers). with_strings p named.packed.pointer_to_symbol_table) places in
    inr (inr (record {
      headers = parts.headers;
      bytes = named.bytes.items;
      pointer = named.packed.pointer_to_symbol_table;
      were_read = record {
        read = read;
        reads = reads;
        heads = λ file is has. (of file is has).headers ∙ heads;
        packed = λ file is has. subst (λ (p : Headers). IsPacked file parts.headers named.bytes.items p) packed
            (subst (λ (h : Headers). IsPacked file h named.bytes.items named.packed) heads (of file is has).packed);
      };
      size = subst (λ n. length named.bytes.items ≤ max n len) size with.size;
      undecided = ap (λ (p : Headers). can_decide_tables 0 p named.bytes.items) (sym packed) ∙ puts.1.1;
    }))
