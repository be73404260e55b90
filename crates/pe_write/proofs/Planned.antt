-- The laid-out bytes of a written file's sections.
use Rattle.std.proofs.Common.{◌≡◌, ℕ, ◌+◌, ◌-◌, ◌<◌, ◌≤◌, Bool, true, false, cond, List, [], ◌∷◌, ◌++◌, length, Option, Some, refl, sym, ap, ◌∙◌, inl, inr, arith, append_assoc, length-append}
use Rattle.std.specs.Prelude.{find, replicate, nat_lt, nat_le, ◌==◌, min}
use Rattle.std.proofs.Math.Nat.{div-add-mod', mod-lt}
use Rattle.std.proofs.lemmas.Bool.{cases_Bool, cases_lt, eqb-true, ne_eqb, and_parts, leb-true, ltb-true, ltb-false}
use Rattle.std.proofs.lemmas.List.{get_or_append_left, get_or-append_right, get_or_past, length-replicate, get_or-replicate}
use Rattle.pe_view.specs.Number.{byte_of}
use Rattle.pe_head.specs.declared.section.SectionHeader.{SectionHeader}
use Rattle.pe_head.specs.Section.{rawlen, extent}
use Rattle.pe_layout.specs.Piece.{holds, end_of}
use Rattle.pe_layout.specs.Plain.{section_byte}
use Rattle.pe_write.specs.declared.plan.PlanSection.{PlanSection}
use Rattle.pe_write.specs.PlanFile.{align_up, is_empty, raw_size, raw_start, raw_end, header_from, headers_from, raw_bytes, data_from, file_end, planned_from}

-- a multiple that is not below, and less than one alignment above
pub align_least : (a v : ℕ) → 0 < a → v ≤ align_up a v
align_least a v some =
    let whole = div-add-mod' (v + a - 1) a in
    let small = mod-lt (v + a - 1) some in
    omega arith

pub byte-left : (xs ys : List ℕ) (o : ℕ) → o < length xs → byte_of (xs ++ ys) o ≡ byte_of xs o
byte-left xs ys o lt = get_or_append_left xs ys 0 o lt

pub byte-right : (xs ys : List ℕ) (n o : ℕ) → length xs ≡ n → byte_of (xs ++ ys) (n + o) ≡ byte_of ys o
byte-right xs ys n o e = get_or-append_right xs ys n (n + o) 0 e (omega arith) ∙ ap (byte_of ys) (omega arith)

pub byte-zeros : (n o : ℕ) → byte_of (replicate n 0) o ≡ 0
byte-zeros n o = elim (cases_lt o n) [
  | inl lt ↦ get_or-replicate n o 0 0 lt
  | inr past ↦ get_or_past (replicate n 0) o 0 (omega (arith, length-replicate {A = ℕ} n 0))
]

-- bytes with zeros after them
filled : (raw : List ℕ) (n k : ℕ) → byte_of (raw ++ replicate n 0) k ≡ byte_of raw k
filled raw n k = elim (cases_lt k (length raw)) [
  | inl lt ↦ byte-left raw (replicate n 0) k lt
  | inr past ↦ get_or-append_right raw (replicate n 0) (length raw) k 0 refl past ∙ byte-zeros n (k - length raw) ∙ sym (get_or_past raw k 0 past)
]

module _ (a : ℕ) (some : 0 < a) where
  -- the raw data of a section that is not empty
  length-raw : (end : ℕ) (s : PlanSection) → is_empty s ≡ false → length (raw_bytes a end s) ≡ align_up a end - end + raw_size a s
  length-raw end s is =
      let least = align_least a (length s.raw.now) some in
      rw is (omega (arith, length-append {A = ℕ}, length-replicate {A = ℕ}))

  -- the bytes of the file from its start on
  raw_at : (before rest : List ℕ) (end k : ℕ) (s : PlanSection) → length before ≡ end → is_empty s ≡ false → k < raw_size a s → byte_of (before ++ (raw_bytes a end s ++ rest)) (raw_start a end s + k) ≡ byte_of s.raw.now k
  raw_at before rest end k s len is lt =
      let least = align_least a end some in
      let size = align_least a (length s.raw.now) some in
      let front : List ℕ = replicate (align_up a end - end) 0 in
      let back : List ℕ = replicate (raw_size a s - length s.raw.now) 0 in
      let gap : length front ≡ align_up a end - end = length-replicate {A = ℕ} (align_up a end - end) 0 in
      let data_len : length (s.raw.now ++ back) ≡ raw_size a s = omega (arith, length-append s.raw.now back, length-replicate {A = ℕ} (raw_size a s - length s.raw.now) 0) in
      let start : raw_start a end s ≡ align_up a end = rw is refl in
      let bytes : raw_bytes a end s ≡ front ++ (s.raw.now ++ back) = rw is refl in
      let parts : before ++ (raw_bytes a end s ++ rest) ≡ before ++ (front ++ ((s.raw.now ++ back) ++ rest)) = ap (λ (xs : List ℕ). before ++ (xs ++ rest)) bytes ∙ ap (λ (xs : List ℕ). before ++ xs) (append_assoc front (s.raw.now ++ back) rest) in
      let at : raw_start a end s + k ≡ end + (align_up a end - end + k) = omega arith in
      ap (λ (xs : List ℕ). byte_of xs (raw_start a end s + k)) parts
      ∙ ap (byte_of (before ++ (front ++ ((s.raw.now ++ back) ++ rest)))) at
      ∙ byte-right before (front ++ ((s.raw.now ++ back) ++ rest)) end (align_up a end - end + k) len
      ∙ byte-right front ((s.raw.now ++ back) ++ rest) (align_up a end - end) k gap
      ∙ byte-left (s.raw.now ++ back) rest k (omega arith)
      ∙ filled s.raw.now (raw_size a s - length s.raw.now) k

  pub rest_at : (before rest : List ℕ) (end : ℕ) (s : PlanSection) → length before ≡ end → length (before ++ raw_bytes a end s) ≡ raw_end a end s
  rest_at before rest end s len = elim (cases_Bool (is_empty s)) [
    | inl empty ↦ rw empty (omega (arith, length-append {A = ℕ}))
    | inr full ↦ (let l = length-raw end s full in let least = align_least a end some in let e : raw_end a end s ≡ align_up a end + raw_size a s = rw full refl in omega (arith, length-append before (raw_bytes a end s)))
  ]

  full_rawlen : (end : ℕ) (s : PlanSection) → 0 < end → is_empty s ≡ false → rawlen (header_from a end s) ≡ min (extent (header_from a end s)) (raw_size a s)
  full_rawlen end s here is =
      let least = align_least a end some in
      let start : raw_start a end s ≡ align_up a end = rw is refl in
      let not_none : (raw_start a end s == 0) ≡ false = ne_eqb (raw_start a end s) 0 (λ e. omega arith) in
      rw not_none refl

  pub empty_rawlen : (end : ℕ) (s : PlanSection) → is_empty s ≡ true → rawlen (header_from a end s) ≡ 0
  empty_rawlen end s is = rw is refl

  data_byte : (g : List ℕ) (r o m k : ℕ) (b : Bool) → nat_lt k m ≡ b → (k < m → byte_of g o ≡ r) → (m ≤ k → 0 ≡ r) → cond b (byte_of g o) 0 ≡ r
  data_byte g r o m k true test inside past = inside (ltb-true _ _ test)
  data_byte g r o m k false test inside past = past (ltb-false _ _ test)

  here_planned : (before rest : List ℕ) (end r : ℕ) (s : PlanSection) → length before ≡ end → 0 < end → holds r (header_from a end s) ≡ true
      → section_byte (before ++ (raw_bytes a end s ++ rest)) r (Some (header_from a end s)) ≡ byte_of s.raw.now (r - s.virtual_address)
  here_planned before rest end r s len here holds_it =
      let h = header_from a end s in
      let k : ℕ = r - s.virtual_address in
      let parts = and_parts (nat_le s.virtual_address r) (nat_lt r (end_of h)) holds_it in
      let low : s.virtual_address ≤ r = leb-true _ _ parts.0 in
      let high : r < s.virtual_address + extent h = ltb-true _ _ parts.1 in
      elim (cases_Bool (is_empty s)) [
        | inl empty ↦
            (let none : length s.raw.now ≡ 0 = eqb-true _ _ empty in
            let len0 = empty_rawlen end s empty in
            data_byte (before ++ (raw_bytes a end s ++ rest)) (byte_of s.raw.now k) (raw_start a end s + k) (rawlen h) k (nat_lt k (rawlen h)) refl (λ lt. absurd (omega arith)) (λ _. sym (get_or_past s.raw.now k 0 (omega arith))))
        | inr full ↦
            (let whole = full_rawlen end s here full in
            let size = align_least a (length s.raw.now) some in
            data_byte (before ++ (raw_bytes a end s ++ rest)) (byte_of s.raw.now k) (raw_start a end s + k) (rawlen h) k (nat_lt k (rawlen h)) refl
            (λ lt. raw_at before rest end k s len full (omega arith))
            (λ past. sym (get_or_past s.raw.now k 0 (omega arith))))
      ]

  by_holds : (g : List ℕ) (r byte other : ℕ) (h : SectionHeader) (found : Option SectionHeader) (b : Bool) → (b ≡ true → section_byte g r (Some h) ≡ byte) → section_byte g r found ≡ other → section_byte g r (cond b (Some h) found) ≡ cond b byte other
  by_holds g r byte other h found true here there = here refl
  by_holds g r byte other h found false here there = there

  pub end_some : (end : ℕ) (s : PlanSection) → 0 < end → 0 < raw_end a end s
  end_some end s here = elim (cases_Bool (is_empty s)) [
    | inl empty ↦ rw empty here
    | inr full ↦ (let least = align_least a end some in let e : raw_end a end s ≡ align_up a end + raw_size a s = rw full refl in omega arith)
  ]

  -- after the headers, the file lays out the planned bytes
  pub sections_planned : (before : List ℕ) (end : ℕ) (ss : List PlanSection) (r : ℕ) → length before ≡ end → 0 < end
      → section_byte (before ++ data_from a end ss) r (find (holds r) (headers_from a end ss)) ≡ planned_from a end ss r
  sections_planned before end [] r len here = refl
  sections_planned before end (s ∷ ss) r len here =
      let more : List ℕ = before ++ raw_bytes a end s in
      let rest : List ℕ = data_from a (raw_end a end s) ss in
      let found = find (holds r) (headers_from a (raw_end a end s) ss) in
      let there : section_byte (before ++ (raw_bytes a end s ++ rest)) r found ≡ planned_from a (raw_end a end s) ss r =
      ap (λ (g : List ℕ). section_byte g r found) (sym (append_assoc before (raw_bytes a end s) rest))
      ∙ sections_planned more (raw_end a end s) ss r (rest_at before rest end s len) (end_some end s here) in
      by_holds (before ++ (raw_bytes a end s ++ rest)) r (byte_of s.raw.now (r - s.virtual_address)) (planned_from a (raw_end a end s) ss r) (header_from a end s) found (holds r (header_from a end s)) (here_planned before rest end r s len here) there

  -- the file ends where its raw data does
  pub data_end : (before : List ℕ) (end : ℕ) (ss : List PlanSection) → length before ≡ end → length (before ++ data_from a end ss) ≡ file_end a end ss
  data_end before end [] len = omega (arith, length-append before [])
  data_end before end (s ∷ ss) len =
      ap length (sym (append_assoc before (raw_bytes a end s) (data_from a (raw_end a end s) ss)))
      ∙ data_end (before ++ raw_bytes a end s) (raw_end a end s) ss (rest_at before [] end s len)
