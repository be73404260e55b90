-- A name is too far for seven digits exactly if its offset is.
use Rattle.std.proofs.Common.{◌≡◌, ◌∙◌, ℕ, ◌≤◌, false, cond, List, [], ◌∷◌, Some, None, length, refl, ap, arith, inl, inr}
use Rattle.std.specs.Prelude.{position, not, nat_lt}
use Rattle.std.specs.List.{prefix_len}
use Rattle.std.proofs.lemmas.Bool.{cases_Bool, ltb-false}
use Rattle.std.proofs.lemmas.List.{length-map}
use Rattle.coff_read.specs.Names.{is_long_section_name}
use Rattle.coff_object.specs.NamePlaces.{place_of, section_places}
use Rattle.coff_read.specs.Records.{Section}
use Rattle.coff_object.specs.StringTableView.{counted}
use Rattle.coff_read.specs.Strings.{offset_of}
use Rattle.coff_object.specs.WriteFaults.{is_far}

far-counted : (n : ℕ) → nat_lt 9999999 (counted n) ≡ nat_lt 9999999 n
far-counted n = grind arith

far-place : (strings : List (List ℕ)) (s : Section) → nat_lt 9999999 (place_of is_long_section_name strings s.name) ≡ is_far strings s
far-place strings s = elim (cases_Bool (is_long_section_name s.name)) [
  | inl long ↦ rw long (far-counted (offset_of strings s.name))
  | inr short ↦ rw short refl
]

near-places : (strings : List (List ℕ)) (sections : List Section) → prefix_len (λ place. not (nat_lt 9999999 place)) (section_places strings sections) ≡ prefix_len (λ s. not (is_far strings s)) sections
near-places strings [] = refl
near-places strings (s ∷ sections) = rw (far-place strings s, near-places strings sections) refl

pub far-position : (strings : List (List ℕ)) (sections : List Section) → position (nat_lt 9999999) (section_places strings sections) ≡ position (is_far strings) sections
far-position strings sections =
    ap (λ (n : ℕ). cond (nat_lt n (length (section_places strings sections))) (Some n) None) (near-places strings sections)
    ∙ ap (λ (n : ℕ). cond (nat_lt (prefix_len (λ s. not (is_far strings s)) sections) n) (Some (prefix_len (λ s. not (is_far strings s)) sections)) None) (length-map sections (λ (s : Section). place_of is_long_section_name strings s.name))

-- the offset of a name that is not too far
pub near_place : (strings : List (List ℕ)) (s : Section) (place : ℕ) → place ≡ place_of is_long_section_name strings s.name → is_far strings s ≡ false → place ≤ 9999999
near_place strings s place is near =
    let le = ltb-false 9999999 (place_of is_long_section_name strings s.name) (far-place strings s ∙ near) in
    omega arith
