-- An image for one base that is relocated again to another.
use Rattle.std.proofs.Common.{◌≡◌, ℕ, ◌+◌, ◌-◌, ◌%◌, ◌<◌, true, false, List, length, get_or, Option, Some, None, refl, ap, ◌∙◌, inl, inr, arith}
use Rattle.std.specs.Prelude.{find, AllPairs, pos, ◌-ℤ◌, Contains}
use Rattle.pe_view.specs.Number.{digit}
use Rattle.pe_layout.specs.Image.{LaidOut, number_at}
use Rattle.pe_tables.specs.Fixups.{width_of, fixups_of}
use Rattle.pe_tables.specs.declared.fixups.Fixup.{Fixup}
use Rattle.pe_tables.specs.Relocated.{shift, in_field, shifted, relocated, relocated_by}
use Rattle.pe_tables.proofs.Shifts.{shift_lt, shift-shift}
use Rattle.pe_write.proofs.Lists.{found, find_first, in_range, below_range, above_range}
use Rattle.pe_view.specs.Digits.{num_of_own_digits}
use Rattle.pe_write.proofs.Whole.{FieldsApart}

-- The image of g is that of i relocated to the base, a multiple of 65,536, wherever `free` holds, and it has the same fixups;
-- their fields are free and disjoint.
pub record IsRebasedImage (free : ℕ → Type 0) (i g : LaidOut) (base : ℕ) : Type 0 where
  pub aligned : base % 65536 ≡ 0
  pub image_base : g.image_base ≡ base
  pub bytes : (r : ℕ) → free r → g.byte r ≡ relocated i base r
  pub fixups : fixups_of g ≡ fixups_of i
  pub apart : AllPairs FieldsApart (fixups_of i)
  pub fields : (f : Fixup) (k : ℕ) → Contains (fixups_of i) f → k < width_of f.kind → free (f.field + k)

apart_fails : (e f : Fixup) (k : ℕ) → k < width_of f.kind → FieldsApart e f → in_field (f.field + k) e ≡ false
apart_fails e f k small (inl low) = above_range e.field (width_of e.kind) (f.field + k) (omega arith)
apart_fails e f k small (inr high) = below_range e.field (width_of e.kind) (f.field + k) (omega arith)

-- if fields are disjoint, a search for a byte of one finds it
own : (fs : List Fixup) (f : Fixup) (k : ℕ) → AllPairs FieldsApart fs → (j : ℕ) → j < length fs → ((d : Fixup) → get_or fs j d ≡ f) → k < width_of f.kind → find (in_field (f.field + k)) fs ≡ Some f
own fs f k apart j lt is small =
    let here : in_field (f.field + k) (get_or fs j f) ≡ true = rw (is f) (in_range f.field (width_of f.kind) (f.field + k) (omega arith) (omega arith)) in
    find_first (in_field (f.field + k)) fs j f lt (λ n below. apart_fails (get_or fs n f) f k small (rw (is f) at (apart n j f below lt))) here ∙ ap Some (is f)

module _ (Free : ℕ → Type 0) (i g : LaidOut) (base : ℕ) (s : IsRebasedImage Free i g base) where
  -- the number of a field in the new image
  field_number : (f : Fixup) → (j : ℕ) → j < length (fixups_of i) → ((d : Fixup) → get_or (fixups_of i) j d ≡ f) → number_at (width_of f.kind) g f.field ≡ shifted i base f
  field_number f j lt is =
      let contains : Contains (fixups_of i) f = (j, lt, is f) in
      num_of_own_digits g.byte f.field (width_of f.kind) (shifted i base f) (shift_lt (number_at (width_of f.kind) i f.field) f.kind (pos base -ℤ pos i.image_base))
      (λ k small. s.bytes (f.field + k) (s.fields f k contains small) ∙ ap (relocated_by i base (f.field + k)) (own (fixups_of i) f k s.apart j lt is small) ∙ ap (digit (shifted i base f)) (omega arith))

  by_field : (at r : ℕ) (o : Option Fixup) → at % 65536 ≡ 0 → Free r → find (in_field r) (fixups_of i) ≡ o → relocated_by g at r o ≡ relocated_by i at r o
  by_field at r None aligned free none = s.bytes r free ∙ ap (relocated_by i base r) none
  by_field at r (Some f) aligned free some =
      let place = found (in_field r) (fixups_of i) f some in
      let value : shifted g at f ≡ shifted i at f =
      ap (λ (v : ℕ). shift f.kind v (pos at -ℤ pos g.image_base)) (field_number f place.place place.inside place.is)
      ∙ ap (λ (b : ℕ). shift f.kind (shifted i base f) (pos at -ℤ pos b)) s.image_base
      ∙ shift-shift (number_at (width_of f.kind) i f.field) f.kind i.image_base base at s.aligned aligned in
      ap (λ (v : ℕ). digit v (r - f.field)) value

  -- relocated to any base that is a multiple of 65,536, the new image is as the old one
  pub relocated-again : (at r : ℕ) → at % 65536 ≡ 0 → Free r → relocated g at r ≡ relocated i at r
  relocated-again at r aligned free =
      ap (λ (fs : List Fixup). relocated_by g at r (find (in_field r) fs)) s.fixups
      ∙ by_field at r (find (in_field r) (fixups_of i)) aligned free refl
