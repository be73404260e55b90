-- The offsets of a string table's strings.
use Rattle.std.proofs.Common.{◌≡◌, ℕ, ◌+◌, ◌≤◌, true, false, List, [], ◌∷◌, ◌++◌, length, refl, ap, ◌∙◌, length-append, arith, inl, inr}
use Rattle.std.specs.Str.{bytes_eq}
use Rattle.std.proofs.lemmas.Bool.{cases_Bool, or_parts}
use Rattle.std.proofs.lemmas.List.Concat.{flat_map-append}
use Rattle.coff_read.specs.Strings.{is_among, offset_from, string_bytes}
use Rattle.coff_object.proofs.StringTable.{equal_bytes}

-- a string of the table keeps its offset when strings are added
pub offset-kept : (at : ℕ) (texts more : List (List ℕ)) (text : List ℕ) → is_among text texts ≡ true → offset_from at (texts ++ more) text ≡ offset_from at texts text
offset-kept at [] more text there = absurd cc
offset-kept at (t ∷ texts) more text there = elim (cases_Bool (bytes_eq text t)) [
  | inl same ↦ rw same refl
  | inr apart ↦
      (let later : is_among text texts ≡ true = rw apart at there in
      rw apart (offset-kept (at + length t + 1) texts more text later))
]

-- a new string has the offset of the table's end
pub offset-new : (at : ℕ) (texts : List (List ℕ)) (text : List ℕ) → is_among text texts ≡ false → offset_from at (texts ++ text ∷ []) text ≡ at + length (string_bytes texts)
offset-new at [] text none = rw (equal_bytes text) (omega arith)
offset-new at (t ∷ texts) text none =
    let parts = or_parts (bytes_eq text t) (is_among text texts) none in
    let whole : length ((t ++ 0 ∷ []) ++ string_bytes texts) ≡ length (t ++ 0 ∷ []) + length (string_bytes texts) = length-append (t ++ 0 ∷ []) (string_bytes texts) in
    let one : length (t ++ 0 ∷ []) ≡ length t + 1 = length-append t (0 ∷ []) in
    let later = offset-new (at + length t + 1) texts text parts.1 in
    rw parts.0 (omega arith)

-- the size of a table with one more string
pub bytes-more : (texts : List (List ℕ)) (text : List ℕ) → length (string_bytes (texts ++ text ∷ [])) ≡ length (string_bytes texts) + length text + 1
bytes-more texts text =
    let bytes : string_bytes (texts ++ text ∷ []) ≡ string_bytes texts ++ ((text ++ 0 ∷ []) ++ []) = flat_map-append (λ (t : List ℕ). t ++ 0 ∷ []) texts (text ∷ []) in
    let len : length (string_bytes (texts ++ text ∷ [])) ≡ length (string_bytes texts) + length ((text ++ 0 ∷ []) ++ []) = ap length bytes ∙ length-append (string_bytes texts) ((text ++ 0 ∷ []) ++ []) in
    let one : length ((text ++ 0 ∷ []) ++ []) ≡ length (text ++ 0 ∷ []) + 0 = length-append (text ++ 0 ∷ []) [] in
    let two : length (text ++ 0 ∷ []) ≡ length text + 1 = length-append text (0 ∷ []) in
    omega arith

-- no offset is before the first string
pub offset-ge : (at : ℕ) (texts : List (List ℕ)) (text : List ℕ) → at ≤ offset_from at texts text
offset-ge at [] text = omega arith
offset-ge at (t ∷ texts) text =
    let later = offset-ge (at + length t + 1) texts text in
    elim (cases_Bool (bytes_eq text t)) [
      | inl same ↦ rw same (omega arith)
      | inr other ↦ rw other (omega arith)
    ]
