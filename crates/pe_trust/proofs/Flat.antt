-- Raw data that follow one another are one run of the file's bytes, and so is all that is signed but for the two gaps in the headers.
use Rattle.std.proofs.Common.{◌≡◌, ◌∙◌, refl, ℕ, ◌+◌, ◌-◌, ◌≤◌, cond, true, List, [], ◌∷◌, ◌++◌, length, take, drop, sym, ap, arith, append_assoc, eq-eqb}
use Rattle.std.specs.Prelude.{Option, None, Some, if◌then◌else◌, slice_range}
use Rattle.std.proofs.Math.Seq.{take-add}
use Rattle.std.proofs.lemmas.List.{drop-drop}
use Rattle.std.proofs.lemmas.List.Sums.{sum_by-cons}
use Rattle.std.proofs.lemmas.List.Concat.{flat_map-cons}
use Rattle.std.proofs.lemmas.Bool.{and_parts, eqb-true, ne_eqb}
use Rattle.pe_view.specs.Number.{part}
use Rattle.pe_head.specs.declared.section.SectionHeader.{SectionHeader}
use Rattle.pe_trust.specs.SignedBytes.{bytes_hashed, is_gapless, section_bytes}

-- where raw data end that follow one another
abbrev pub end_if_gapless : ℕ → List SectionHeader → Option ℕ
end_if_gapless start ss = if is_gapless start ss then Some (bytes_hashed start ss) else None

pub hashed_more : (start : ℕ) (s : SectionHeader) (ss : List SectionHeader) → bytes_hashed start (s ∷ ss) ≡ bytes_hashed (start + s.size_of_raw_data) ss
hashed_more start s ss =
    let more = sum_by-cons (λ (t : SectionHeader). t.size_of_raw_data) s ss in
    omega (arith, more)

-- a section that begins where the one before ends
pub end_more : (start : ℕ) (s : SectionHeader) (ss : List SectionHeader) → s.pointer_to_raw_data ≡ start
    → end_if_gapless start (s ∷ ss) ≡ end_if_gapless (start + s.size_of_raw_data) ss
end_more start s ss here =
    let is = eq-eqb s.pointer_to_raw_data start here in
    rw is (ap (λ (n : ℕ). cond (is_gapless (start + s.size_of_raw_data) ss) (Some n) None) (hashed_more start s ss))

-- and one that does not
pub end_none : (start : ℕ) (s : SectionHeader) (ss : List SectionHeader) → (s.pointer_to_raw_data ≡ start → ⊥) → end_if_gapless start (s ∷ ss) ≡ None
end_none start s ss other = let is = ne_eqb s.pointer_to_raw_data start other in rw is refl

-- a range of bytes in two
pub in_two : (file : List ℕ) (a b c : ℕ) → a ≤ b → b ≤ c → slice_range file a c ≡ slice_range file a b ++ slice_range file b c
in_two file a b c ab bc =
    let e : c - a ≡ (b - a) + (c - b) = omega arith in
    let at : a + (b - a) ≡ b = omega arith in
    ap (λ (n : ℕ). take n (drop a file)) e
    ∙ take-add (b - a) (c - b) (drop a file)
    ∙ ap (λ (xs : List ℕ). take (b - a) (drop a file) ++ take (c - b) xs) (drop-drop (b - a) a file ∙ ap (λ (n : ℕ). drop n file) at)

hashed_least : (start : ℕ) (ss : List SectionHeader) → start ≤ bytes_hashed start ss
hashed_least start ss = omega arith

-- raw data that follow one another are what the file has up to their end
pub sections_flat : (file : List ℕ) (start : ℕ) (ss : List SectionHeader) → is_gapless start ss ≡ true → section_bytes file ss ≡ slice_range file start (bytes_hashed start ss)
sections_flat file start [] is = let none : start + 0 - start ≡ 0 = omega arith in rw none refl
sections_flat file start (s ∷ ss) is =
    let parts = and_parts _ _ is in
    let here = eqb-true s.pointer_to_raw_data start parts.0 in
    let next : ℕ = start + s.size_of_raw_data in
    let size : next - start ≡ s.size_of_raw_data = omega arith in
    let low : start ≤ next = omega arith in
    let first : part file s.pointer_to_raw_data s.size_of_raw_data ≡ slice_range file start next =
    ap (λ (n : ℕ). take s.size_of_raw_data (drop n file)) here ∙ ap (λ (n : ℕ). take n (drop start file)) (sym size) in
    let rest = sections_flat file next ss parts.1 in
    flat_map-cons (λ (t : SectionHeader). part file t.pointer_to_raw_data t.size_of_raw_data) s ss
    ∙ ap (λ (xs : List ℕ). xs ++ section_bytes file ss) first
    ∙ ap (λ (xs : List ℕ). slice_range file start next ++ xs) rest
    ∙ sym (in_two file start next (bytes_hashed next ss) low (hashed_least next ss))
    ∙ ap (slice_range file start) (sym (hashed_more start s ss))

-- what comes before the headers' rest, that rest, the raw data, and the bytes behind them
pub all_flat : (file before : List ℕ) (entry_end headers table size : ℕ) (ss : List SectionHeader) → is_gapless headers ss ≡ true → entry_end ≤ headers → bytes_hashed headers ss ≤ table
    → length file - (size + bytes_hashed headers ss) ≡ table - bytes_hashed headers ss
    → (before ++ slice_range file entry_end headers) ++ (section_bytes file ss ++ part file (bytes_hashed headers ss) (length file - (size + bytes_hashed headers ss))) ≡ before ++ slice_range file entry_end table
all_flat file before entry_end headers table size ss is inside behind left =
    let end : ℕ = bytes_hashed headers ss in
    let low = hashed_least headers ss in
    let sections = sections_flat file headers ss is in
    let rest : section_bytes file ss ++ part file end (length file - (size + end)) ≡ slice_range file headers table =
    ap (λ (xs : List ℕ). xs ++ part file end (length file - (size + end))) sections
    ∙ ap (λ (n : ℕ). slice_range file headers end ++ take n (drop end file)) left
    ∙ sym (in_two file headers end table low behind) in
    ap (λ (xs : List ℕ). (before ++ slice_range file entry_end headers) ++ xs) rest
    ∙ append_assoc before (slice_range file entry_end headers) (slice_range file headers table)
    ∙ ap (λ (xs : List ℕ). before ++ xs) (sym (in_two file entry_end headers table inside (omega (arith, low, behind))))
