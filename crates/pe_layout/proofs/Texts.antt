-- The strings of an image are parts of its file.
use Rattle.std.proofs.Common.{◌≡◌, ℕ, zero, suc, ◌+◌, ◌-◌, ◌<◌, ◌≤◌, Bool, true, false, cond, List, [], ◌++◌, length, Option, Some, None, refl, sym, ap, ◌∙◌, arith, inl, inr}
use Rattle.std.specs.Prelude.{nat_lt, nat_le, replicate, option_map, IsSome, IfSome, if◌then◌else◌}
use Rattle.std.specs.Option.{option_or}
use Rattle.std.proofs.lemmas.Bool.{lt-ltb, le-ltb, le-leb, lt-leb, ltb-true, ltb-false, cases_lt}
use Rattle.pe_view.specs.Number.{part}
use Rattle.pe_view.specs.Text.{zero_ended, text_between}
use Rattle.pe_head.specs.declared.section.SectionHeader.{SectionHeader}
use Rattle.pe_head.specs.declared.headers.Headers.{Headers}
use Rattle.pe_head.specs.Section.{extent, rawlen}
use Rattle.pe_layout.specs.Piece.{end_of}
use Rattle.pe_layout.specs.Plain.{plain, plain_bytes}
use Rattle.pe_layout.specs.PieceText.{section_text, text}
use Rattle.pe_layout.specs.Sections.{IsInSection}
use Rattle.pe_layout.specs.Run.{rest_of}
use Rattle.pe_layout.specs.declared.fill.Run.TheVariants.{Raw, Zeros}
use Rattle.pe_layout.proofs.Parts.{map_split, with_zeros, zero_ended-zeros}
use Rattle.pe_layout.proofs.Runs.{header_run, raw_bytes, zero_bytes, rawlen_le}

-- the string between two offsets of the file
text_between-part : (file : List ℕ) (o m : ℕ) → o + m ≤ length file → text_between file o (o + m) ≡ zero_ended (part file o m)
text_between-part file o m fits =
    let inside : nat_le (o + m) (length file) ≡ true = le-leb _ _ fits in
    let len : o + m - o ≡ m = omega arith in
    rw (inside, len) refl

-- the string at an RVA of the headers
pub header_text : (h : Headers) (file : List ℕ) (r : ℕ) → h.size_of_headers ≤ length file → h.size_of_headers ≤ h.size_of_image → r < h.size_of_headers → text_between file r h.size_of_headers ≡ text h file r
header_text h file r held fits lt =
    let outside : nat_le h.size_of_image r ≡ false = lt-leb _ _ (omega arith) in
    let inside : nat_lt r h.size_of_headers ≡ true = lt-ltb _ _ lt in
    let m : ℕ = h.size_of_headers - r in
    let end : h.size_of_headers ≡ r + m = omega arith in
    let bytes = (header_run h file r m held fits (omega arith) (omega arith)).run.bytes_are in
    ap (text_between file r) end ∙ text_between-part file r m (omega arith) ∙ sym (rw (outside, inside) (ap zero_ended bytes))

ended_at_once : (n : ℕ) → 0 < n → zero_ended (replicate n 0) ≡ Some []
ended_at_once zero lt = absurd (omega (arith, lt))
ended_at_once (suc n) lt = refl

module _ (h : Headers) (file : List ℕ) (s : SectionHeader) (r : ℕ) (past : h.size_of_headers ≤ r) (found : IsInSection h (length file) r s) where
  -- the string in a section's raw data, by the search for its end
  pub raw_text : (o m n : ℕ) → r - s.virtual_address < rawlen s → o ≡ s.pointer_to_raw_data + (r - s.virtual_address) → m ≡ rawlen s - (r - s.virtual_address) → n ≡ extent s - rawlen s
      → section_text h file r (Some s) ≡ with_zeros (text_between file o (o + m)) (part file o m) n
  raw_text o m n lt at some left =
      let low = found.inside.low in
      let high = found.inside.high in
      let le = rawlen_le s in
      let fits : s.pointer_to_raw_data + rawlen s ≤ length file = found.raw (omega arith) in
      let whole : end_of s - r ≡ m + n = omega arith in
      let raw : plain_bytes h file r m ≡ part file o m = raw_bytes h file s r r m past found (omega arith) (omega arith) (omega arith) ∙ ap (λ (x : ℕ). part file x m) (sym at) in
      let zeros : plain_bytes h file (r + m) n ≡ replicate n 0 = zero_bytes h file s r (r + m) n past found (omega arith) (omega arith) (omega arith) in
      let bytes : plain_bytes h file r (end_of s - r) ≡ part file o m ++ replicate n 0 =
      ap (plain_bytes h file r) whole ∙ map_split (plain h file) r m n ∙ ap (λ (xs : List ℕ). xs ++ plain_bytes h file (r + m) n) raw ∙ ap (λ (xs : List ℕ). part file o m ++ xs) zeros in
      ap zero_ended bytes ∙ zero_ended-zeros (part file o m) n ∙ ap (λ (t : Option (List ℕ)). with_zeros t (part file o m) n) (sym (text_between-part file o m (omega arith)))

  -- the string in a section's zero fill
  pub zero_text : rawlen s ≤ r - s.virtual_address → section_text h file r (Some s) ≡ Some []
  zero_text le =
      let low = found.inside.low in
      let high = found.inside.high in
      ap zero_ended (zero_bytes h file s r r (end_of s - r) past found (omega arith) (omega arith) (omega arith)) ∙ ended_at_once (end_of s - r) (omega arith)

-- an empty span
pub empty_text : (file : List ℕ) → option_or (text_between file 0 0) (Some (part file 0 0)) ≡ Some []
empty_text file = ap (λ (t : Option (List ℕ)). option_or t (Some [])) (text_between-part file 0 0 (omega arith))

pub with_zeros_some : (bytes : List ℕ) (n : ℕ) → 0 < n → with_zeros None bytes n ≡ Some bytes
with_zeros_some bytes zero lt = absurd (omega arith)
with_zeros_some bytes (suc n) lt = refl

pub with_zeros_none : (bytes : List ℕ) (n : ℕ) → n ≡ 0 → with_zeros None bytes n ≡ None
with_zeros_none bytes n none = rw none refl

-- a string that ends in zeros, if any follow
pub or_zeros : (t : Option (List ℕ)) (bytes : List ℕ) (less more : ℕ) → option_or t (if nat_lt less more then Some bytes else None) ≡ with_zeros t bytes (more - less)
or_zeros (Some text) bytes less more = refl
or_zeros None bytes less more = elim (cases_lt less more) [
  | inl lt ↦ (let some : nat_lt less more ≡ true = lt-ltb _ _ lt in rw some (sym (with_zeros_some bytes (more - less) (omega (arith, lt)))))
  | inr le ↦ (let none : nat_lt less more ≡ false = le-ltb _ _ le in rw none (sym (with_zeros_none bytes (more - less) (omega (arith, le)))))
]

-- a value that is Some
pub some_value : {X : Type 0} (view : X → List ℕ) (o : Option X) (bytes : List ℕ) → IsSome o → IfSome o (λ x. view x ≡ bytes) → option_map view o ≡ Some bytes
some_value view None bytes some is = absurd cc
some_value view (Some x) bytes some is = ap Some is

raw_by_test : (b : Bool) (o m o' m' n : ℕ) → Raw o m ≡ cond b (Raw o' m') (Zeros n) → (b ≡ true) × (o ≡ o') × (m ≡ m')
raw_by_test true o m o' m' n e = (refl, cc, cc)
raw_by_test false o m o' m' n e = absurd cc

-- what remains of a section is raw data
pub rest_of-raw : (s : SectionHeader) (r o m : ℕ) → Raw o m ≡ rest_of s r → (r - s.virtual_address < rawlen s) × (o ≡ s.pointer_to_raw_data + (r - s.virtual_address)) × (m ≡ rawlen s - (r - s.virtual_address))
rest_of-raw s r o m e =
    let p = raw_by_test (nat_lt (r - s.virtual_address) (rawlen s)) o m _ _ _ e in
    (ltb-true _ _ p.0, p.1, p.2)

zeros_by_test : (b : Bool) (o m n n' : ℕ) → Zeros n ≡ cond b (Raw o m) (Zeros n') → b ≡ false
zeros_by_test true o m n n' e = absurd cc
zeros_by_test false o m n n' e = refl

-- what remains of a section is zero fill
pub rest_of-zeros : (s : SectionHeader) (r n : ℕ) → Zeros n ≡ rest_of s r → rawlen s ≤ r - s.virtual_address
rest_of-zeros s r n e = ltb-false _ _ (zeros_by_test (nat_lt (r - s.virtual_address) (rawlen s)) _ _ n _ e)
