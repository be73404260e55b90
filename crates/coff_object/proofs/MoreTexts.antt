-- Entries with one more after them.
use Rattle.std.proofs.Common.{◌≡◌, ℕ, zero, suc, true, List, [], ◌∷◌, ◌++◌, length, ◌⊎◌, Option, Some, None, refl, sym, ap, subst, ◌∙◌, inl, inr}
use Rattle.std.specs.Prelude.{slice_get, option_and_then, if◌then◌else◌}
use Rattle.std.specs.Str.{bytes_eq}
use Rattle.std.proofs.lemmas.Bool.{or_left, or_right}
use Rattle.std.proofs.lemmas.List.{map-append}
use Rattle.std.proofs.lemmas.Option.{same_Some, cond_some}
use Rattle.coff_read.specs.Strings.{is_among, offset_of}
use Rattle.coff_object.specs.Slots.{Entry, texts_of, offset_at}
use Rattle.coff_object.specs.StringTableView.{counted}
use Rattle.coff_object.proofs.StringTable.{same_bytes, equal_bytes}

pub texts_more : (entries : List Entry) (e : Entry) → texts_of (entries ++ e ∷ []) ≡ texts_of entries ++ e.0.now ∷ []
texts_more entries e = map-append (λ (x : Entry). x.0.now) entries (e ∷ [])

pub get_kept : (entries more : List Entry) (i : ℕ) (e : Entry) → slice_get entries i ≡ Some e → slice_get (entries ++ more) i ≡ Some e
get_kept [] more i e at = absurd cc
get_kept (x ∷ entries) more zero e at = at
get_kept (x ∷ entries) more (suc i) e at = get_kept entries more i e at

pub get_new : (entries : List Entry) (e : Entry) → slice_get (entries ++ e ∷ []) (length entries) ≡ Some e
get_new [] e = refl
get_new (x ∷ entries) e = get_new entries e

pub get_more : (entries : List Entry) (y : Entry) (i : ℕ) (e : Entry) → slice_get (entries ++ y ∷ []) i ≡ Some e → (slice_get entries i ≡ Some e) ⊎ (y ≡ e)
get_more [] y zero e at = inr (same_Some y e at)
get_more [] y (suc i) e at = absurd cc
get_more (x ∷ entries) y zero e at = inl at
get_more (x ∷ entries) y (suc i) e at = get_more entries y i e at

-- the string of an entry is among the strings
pub among_at : (entries : List Entry) (i : ℕ) (e : Entry) → slice_get entries i ≡ Some e → is_among e.0.now (texts_of entries) ≡ true
among_at [] i e at = absurd cc
among_at (x ∷ entries) zero e at = or_left _ _ (subst (λ (y : Entry). bytes_eq e.0.now y.0.now ≡ true) (sym (same_Some x e at)) (equal_bytes e.0.now))
among_at (x ∷ entries) (suc i) e at = or_right _ _ (among_at entries i e at)

-- the offset that is found by a slot is the string's
pub hit : (entries : List Entry) (text : List ℕ) (slot offset : ℕ) → ((i : ℕ) (e : Entry) → slice_get entries i ≡ Some e → e.1 ≡ counted (offset_of (texts_of entries) e.0.now)) → offset_at entries text slot ≡ Some offset
    → (is_among text (texts_of entries) ≡ true) × (offset ≡ counted (offset_of (texts_of entries) text))
hit entries text zero offset right is = absurd cc
hit entries text (suc i) offset right is = by (slice_get entries i) refl is
  where
    by : (o : Option Entry) → slice_get entries i ≡ o → option_and_then (λ (e : Entry). if bytes_eq text e.0.now then Some e.1 else None) o ≡ Some offset
        → (is_among text (texts_of entries) ≡ true) × (offset ≡ counted (offset_of (texts_of entries) text))
    by None at some = absurd cc
    by (Some e) at some =
        let parts = cond_some (bytes_eq text e.0.now) e.1 offset some in
        let same : text ≡ e.0.now = same_bytes text e.0.now parts.0 in (
          subst (λ (t : List ℕ). is_among t (texts_of entries) ≡ true) (sym same) (among_at entries i e at),
          sym parts.1 ∙ right i e at ∙ ap (λ (t : List ℕ). counted (offset_of (texts_of entries) t)) (sym same),
        )

-- and it is still found
pub told_kept : (entries more : List Entry) (text : List ℕ) (slot offset : ℕ) → offset_at entries text slot ≡ Some offset → offset_at (entries ++ more) text slot ≡ Some offset
told_kept entries more text zero offset is = absurd cc
told_kept entries more text (suc i) offset is = by (slice_get entries i) refl is
  where
    by : (o : Option Entry) → slice_get entries i ≡ o → option_and_then (λ (e : Entry). if bytes_eq text e.0.now then Some e.1 else None) o ≡ Some offset
        → offset_at (entries ++ more) text (suc i) ≡ Some offset
    by None at some = absurd cc
    by (Some e) at some = ap (option_and_then (λ (x : Entry). if bytes_eq text x.0.now then Some x.1 else None)) (get_kept entries more i e at) ∙ some
