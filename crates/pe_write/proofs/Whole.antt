-- The writes of a rebase in sequence.
use Rattle.std.proofs.Common.{◌≡◌, ℕ, suc, ◌+◌, ◌-◌, ◌<◌, ◌≤◌, List, [], ◌∷◌, length, get_or, Some, refl, sym, ap, ◌∙◌, inl, inr, arith, subst, true}
use Rattle.std.specs.Prelude.{map, AllPairs, pos, ◌-ℤ◌, nat_lt}
use Rattle.std.proofs.lemmas.Bool.{cases_order, lt-ltb}
use Rattle.pe_view.specs.Number.{num, byte_of}
use Rattle.pe_head.specs.Optional.{image_base_offset, image_base_width}
use Rattle.pe_head.specs.declared.optional.Magic.{Magic}
use Rattle.pe_head.specs.declared.optional.Magic.TheVariants.{Pe32, Pe32Plus}
use Rattle.pe_head.specs.declared.section.SectionHeader.{SectionHeader}
use Rattle.pe_head.specs.declared.headers.Headers.{Headers}
use Rattle.pe_head.specs.Section.{rawlen}
use Rattle.pe_layout.specs.Image.{LaidOut, image_from, number_at}
use Rattle.pe_layout.specs.Plain.{plain, section_byte}
use Rattle.pe_tables.specs.Fixups.{width_of, range_of, fixups_of}
use Rattle.pe_ranges.specs.Ranges.{AreApart}
use Rattle.pe_tables.specs.declared.fixups.Fixup.{Fixup}
use Rattle.pe_tables.specs.Relocated.{in_field}
use Rattle.pe_write.proofs.Writes.{Write}
use Rattle.pe_write.specs.Rebase.{place_of}
use Rattle.pe_write.proofs.Writes.{image_base_write, check_sum_write, field_write, rebase_writes, rebased_from}
use Rattle.pe_write.specs.Rebase.{put, put_header, moved_all}
use Rattle.pe_write.proofs.Lists.{Each, each_map, in_range}
use Rattle.pe_write.proofs.Bytes.{same_num}
use Rattle.pe_write.proofs.Kept.{Kept, Lies, where_at, holder}
use Rattle.pe_write.proofs.Moved.{image_base_ends, plain-behind}
use Rattle.pe_write.proofs.Sequence.{EachPair, AreClear, Inside, puts_all, put_beside, length-put, moved_puts, Reads}

-- by index, and by recursion
pub each_from : {X : Type 0} (P : X → Type 0) (xs : List X) → ((k : ℕ) (d : X) → k < length xs → P (get_or xs k d)) → Each P xs
each_from P [] f = tt
each_from P (x ∷ xs) f = (f 0 x (omega arith), each_from P xs (λ k d lt. f (suc k) d (omega arith)))

pairs_from : {X : Type 0} (R : X → X → Type 0) (xs : List X) → AllPairs R xs → EachPair R xs
pairs_from R [] f = tt
pairs_from R (x ∷ xs) f = (each_from (R x) xs (λ k d lt. f 0 (suc k) d (omega arith) (omega arith)), pairs_from R xs (λ i j d below lt. f (suc i) (suc j) d (omega arith) (omega arith)))

each_through : {X Y : Type 0} (P : Y → Type 0) (f : X → Y) (xs : List X) → Each (λ x. P (f x)) xs → Each P (map f xs)
each_through P f [] e = tt
each_through P f (x ∷ xs) e = (e.0, each_through P f xs e.1)

-- facts about each element and each pair give facts about the pairs of what is made from them
pairs_through : {X Y : Type 0} (P : X → Type 0) (R : X → X → Type 0) (S : Y → Y → Type 0) (f : X → Y) (xs : List X) → ((x z : X) → P x → P z → R x z → S (f x) (f z)) → Each P xs → EachPair R xs → EachPair S (map f xs)
pairs_through P R S f [] imp e r = tt
pairs_through {X = X} P R S f (x ∷ xs) imp e r = (heads xs e.1 r.0, pairs_through P R S f xs imp e.1 r.1)
  where
    heads : (zs : List X) → Each P zs → Each (R x) zs → Each (S (f x)) (map f zs)
    heads [] ez rz = tt
    heads (z ∷ zs) ez rz = (imp x z e.0 ez.0 rz.0, heads zs ez.1 rz.1)

-- two fields are disjoint
abbrev pub FieldsApart : Fixup → Fixup → Type 0
FieldsApart f g = AreApart (range_of f) (range_of g)

-- fields that are disjoint in the image are disjoint in the file
pub clear_at : (h : Headers) (n : ℕ) (i : LaidOut) (base : ℕ) (f g : Fixup) → Lies h n → Kept h f → Kept h g → FieldsApart f g → AreClear (field_write h i base f) (field_write h i base g)
clear_at h n i base f g l kf kg apart =
    let w = where_at h n f l kf in
    let v = where_at h n g l kg in
    let pf = w.place in
    let pg = v.place in
    let lf = w.low in
    let lg = v.low in
    let hf = w.high in
    let hg = v.high in
    elim (cases_order kf.index kg.index) [
      | inl e ↦
          (let same : kf.section ≡ kg.section = sym (kf.is kf.section) ∙ ap (λ (j : ℕ). get_or h.sections.items j kf.section) e ∙ kg.is kf.section in
          let start : kf.section.virtual_address ≡ kg.section.virtual_address = ap (λ (s : SectionHeader). s.virtual_address) same in
          let data_start : kf.section.pointer_to_raw_data ≡ kg.section.pointer_to_raw_data = ap (λ (s : SectionHeader). s.pointer_to_raw_data) same in
          elim apart [ inl below ↦ inl (omega arith) | inr above ↦ inr (omega arith) ])
      | inr other ↦ elim other [
        | inl below ↦ (let a = (rw (kf.is kf.section, kg.is kf.section) at (l.apart.apart kf.index kg.index kf.section below kg.inside)).apart w.some v.some in elim a [ inl x ↦ inl (omega arith) | inr y ↦ inr (omega arith) ])
        | inr above ↦ (let a = (rw (kg.is kf.section, kf.is kf.section) at (l.apart.apart kg.index kf.index kf.section above kf.inside)).apart v.some w.some in elim a [ inl x ↦ inr (omega arith) | inr y ↦ inl (omega arith) ])
      ]
    ]

module _ (h : Headers) (file : List ℕ) (base : ℕ) (l : Lies h (length file)) (kept : Each (Kept h) (fixups_of (image_from 0 h file))) (apart : AllPairs FieldsApart (fixups_of (image_from 0 h file))) where
  -- a field's bytes in the file are those in the image
  field_reads : (f : Fixup) → Kept h f → num (byte_of file) (place_of h f) (width_of f.kind) ≡ number_at (width_of f.kind) (image_from 0 h file) f.field
  field_reads f k =
      let w = where_at h (length file) f l k in
      let place = w.place in
      let low = w.low in
      let high = w.high in
      let behind = w.behind in
      sym (same_num (plain h file) (byte_of file) f.field (place_of h f) (width_of f.kind) (λ j lt.
      let here : in_field (f.field + j) f ≡ true = in_range f.field (width_of f.kind) (f.field + j) (omega arith) (omega arith) in
      let raw : nat_lt (f.field + j - k.section.virtual_address) (rawlen k.section) ≡ true = lt-ltb _ _ (omega arith) in
      let byte : section_byte file (f.field + j) (Some k.section) ≡ byte_of file (k.section.pointer_to_raw_data + (f.field + j - k.section.virtual_address)) = rw raw refl in
      plain-behind h file (f.field + j) (Some k.section) (omega arith) (holder h (length file) (f.field + j) f l k here)
      ∙ byte ∙ ap (byte_of file) (omega arith)))

  fields_inside : Each (Inside (length file)) (map (field_write h (image_from 0 h file) base) (fixups_of (image_from 0 h file)))
  fields_inside = each_through (Inside (length file)) (field_write h (image_from 0 h file) base) (fixups_of (image_from 0 h file))
      (each_map (Kept h) (λ f. place_of h f + width_of f.kind ≤ length file) (fixups_of (image_from 0 h file)) (λ f k.
      let w = where_at h (length file) f l k in
      let place = w.place in
      let low = w.low in
      let high = w.high in
      let fits = w.fits in
      omega arith) kept)

  fields_clear : EachPair AreClear (map (field_write h (image_from 0 h file) base) (fixups_of (image_from 0 h file)))
  fields_clear = pairs_through (Kept h) FieldsApart AreClear (field_write h (image_from 0 h file) base) (fixups_of (image_from 0 h file))
      (λ f g kf kg a. clear_at h (length file) (image_from 0 h file) base f g l kf kg a) kept (pairs_from FieldsApart (fixups_of (image_from 0 h file)) apart)

  behind_own : (w : Write) → w.offset + w.width ≤ h.size_of_headers → Each (AreClear w) (map (field_write h (image_from 0 h file) base) (fixups_of (image_from 0 h file)))
  behind_own w le = each_through (AreClear w) (field_write h (image_from 0 h file) base) (fixups_of (image_from 0 h file))
      (each_map (Kept h) (λ f. AreClear w (field_write h (image_from 0 h file) base f)) (fixups_of (image_from 0 h file)) (λ f k.
      let v = where_at h (length file) f l k in
      let place = v.place in
      let behind = v.data_behind in
      inl (omega arith)) kept)

  base_inside : h.pe_offset + 24 + image_base_offset h.magic + image_base_width h.magic ≤ h.pe_offset + 24 + 68
  base_inside = let e = image_base_ends h.magic in omega arith

  base_before_sum : (m : Magic) → image_base_offset m + image_base_width m ≤ 64
  base_before_sum Pe32 = omega arith
  base_before_sum Pe32Plus = omega arith

  -- the file written in sequence is the rebased file
  pub whole : moved_all h (pos base -ℤ pos h.image_base) (fixups_of (image_from 0 h file)) (put_header h base file) ≡ rebased_from h file base
  unfolding put_header
  whole =
      let i = image_from 0 h file in
      let own = l.own in
      let held = l.held in
      let inside = base_inside in
      let early = base_before_sum h.magic in
      let ws : List Write = map (field_write h i base) (fixups_of i) in
      let first = image_base_write h base in
      let second = check_sum_write h in
      let xs : List ℕ = put file first.offset first.width first.value in
      let ys : List ℕ = put xs second.offset second.width second.value in
      let len_x : length xs ≡ length file = length-put file first.offset first.width first.value (omega arith) in
      let len_y : length ys ≡ length xs = length-put xs second.offset second.width second.value (omega arith) in
      let Within : ℕ → Type 0 = λ n. Each (Inside n) ws in
      let reads : Each (Reads h i base ys) (fixups_of i) = each_map (Kept h) (Reads h i base ys) (fixups_of i) (λ f k.
      let w = where_at h (length file) f l k in
      let place = w.place in
      let behind = w.data_behind in
      same_num (byte_of ys) (byte_of file) (place_of h f) (place_of h f) (width_of f.kind) (λ j lt.
      put_beside xs second.offset second.width second.value (place_of h f + j) (omega arith) (inr (omega arith))
      ∙ put_beside file first.offset first.width first.value (place_of h f + j) (omega arith) (inr (omega arith)))
      ∙ field_reads f k) kept in
      moved_puts h i base (fixups_of i) ys (subst Within (sym (len_y ∙ len_x)) fields_inside) fields_clear reads
      ∙ puts_all (rebase_writes h i base) file (omega arith, (omega arith, fields_inside)) ((inl (omega arith), behind_own first (omega arith)), (behind_own second (omega arith), fields_clear))
