-- A map by string, as a search among its entries by the string's bytes.
use Rattle.std.proofs.Common.{◌≡◌, ℕ, zero, suc, ◌<◌, Bool, true, false, List, [], ◌∷◌, length, get_or, set, Option, Some, refl, sym, ap, ◌∙◌, arith}
use Rattle.std.specs.Borrow.{Bor}
use Rattle.std.specs.Prelude.{if◌then◌else◌}
use Rattle.std.specs.Str.{bytes_eq}
use Rattle.std.specs.Map.{lookup}
use Rattle.std.specs.BTreeMap.{insert_entry}
use Rattle.std.specs.Ordering.{match_ordering, is_eq, nat_cmp}
use Rattle.std.specs.declared.cmp.Ordering.{Ordering}
use Rattle.std.specs.declared.cmp.Ordering.TheVariants.{Less, Equal, Greater}
use Rattle.std.specs.Cmp.Lexicographic.{slice_cmp}
use Rattle.std.proofs.lemmas.Bool.{true≢false}
use Rattle.std.proofs.lemmas.Map.Text.{is_eq-slice_cmp}
use Rattle.std.proofs.lemmas.Slice.Eq.{bytes_eq-Decides}
use Rattle.pe_tables.specs.TextMap.{IsBefore, TextsAscend}
use Rattle.pe_tables.proofs.TextRun.{differs_before}

abbrev pub Text : Type 0
Text = Bor (List ℕ)

abbrev pub compare : Text → Text → Ordering
compare a b = slice_cmp nat_cmp a.now b.now

-- an entry is found by the comparison exactly if its string is equal
pub by_bytes : {X : Type 0} (text : List ℕ) (entries : List (Text × X)) → lookup (λ key. is_eq (slice_cmp nat_cmp text key.now)) entries ≡ lookup (λ key. bytes_eq text key.now) entries
by_bytes text entries = ap (λ test. lookup test entries) (λ i key. is_eq-slice_cmp text key.now i)

module _ {X : Type 0} (k : Text) (v : X) (other : List ℕ) where
  abbrev found : List (Text × X) → Option X
  found entries = lookup (λ key. bytes_eq other key.now) entries

  abbrev Inserted : List (Text × X) → List (Text × X) → Type 0
  Inserted old new = found new ≡ (if bytes_eq other k.now then Some v else found old)

  replaced : (e : Text × X) (es : List (Text × X)) (b : Bool) → bytes_eq other e.0.now ≡ b → bytes_eq other k.now ≡ b → Inserted (e ∷ es) ((e.0, v) ∷ es)
  replaced e es true is is' = rw (is, is') refl
  replaced e es false is is' = rw (is, is') refl

  passed : (e : Text × X) (es new : List (Text × X)) (b c : Bool) → bytes_eq other e.0.now ≡ b → bytes_eq other k.now ≡ c → (b ≡ true → c ≡ true → ⊥) → Inserted es new → Inserted (e ∷ es) (e ∷ new)
  passed e es new true true is is' apart rest = absurd (apart refl refl)
  passed e es new true false is is' apart rest = rw (is, is') refl
  passed e es new false true is is' apart rest = let r : found new ≡ Some v = rw is' at rest in rw (is, is') r
  passed e es new false false is is' apart rest = let r : found new ≡ found es = rw is' at rest in rw (is, is') r

  same_text : (a b : List ℕ) → bytes_eq a b ≡ true → a ≡ b
  same_text a b = (bytes_eq-Decides a b).0

  inserted_by : (e : Text × X) (es : List (Text × X)) (order : Ordering) → compare k e.0 ≡ order → Inserted es (insert_entry compare es k v)
      → Inserted (e ∷ es) (match_ordering order ((k, v) ∷ e ∷ es) ((e.0, v) ∷ es) (e ∷ insert_entry compare es k v))
  inserted_by e es Less is rest = refl
  inserted_by e es Equal is rest =
      let same : k.now ≡ e.0.now = same_text k.now e.0.now (sym (is_eq-slice_cmp k.now e.0.now) ∙ ap is_eq is) in
      replaced e es (bytes_eq other e.0.now) refl (ap (bytes_eq other) same)
  inserted_by e es Greater is rest =
      passed e es (insert_entry compare es k v) (bytes_eq other e.0.now) (bytes_eq other k.now) refl refl
      (λ at_e at_k.
      let same : k.now ≡ e.0.now = sym (same_text other k.now at_k) ∙ same_text other e.0.now at_e in
      true≢false (sym ((bytes_eq-Decides k.now e.0.now).1 same) ∙ sym (is_eq-slice_cmp k.now e.0.now) ∙ ap is_eq is))
      rest

  -- what a map has for a string after another entry was added
  pub inserted : (entries : List (Text × X)) → Inserted entries (insert_entry compare entries k v)
  inserted [] = refl
  inserted (e ∷ es) = inserted_by e es (compare k e.0) refl (inserted es)

  -- what ascending strings have for a string after that of one of them changed
  pub set_at : (entries : List (Text × X)) (n : ℕ) (d : Text × X) → TextsAscend entries → n < length entries → bytes_eq k.now (get_or entries n d).0.now ≡ true → Inserted entries (set entries n ((get_or entries n d).0, v))
  set_at [] n d ascend lt is = absurd (omega arith)
  set_at (e ∷ es) zero d ascend lt is = replaced e es (bytes_eq other e.0.now) refl (ap (bytes_eq other) (same_text k.now e.0.now is))
  set_at (e ∷ es) (suc n) d ascend lt is =
      passed e es (set es n ((get_or es n d).0, v)) (bytes_eq other e.0.now) (bytes_eq other k.now) refl refl
      (λ at_e at_k.
      let here : k.now ≡ (get_or es n d).0.now = same_text k.now (get_or es n d).0.now is in
      let same : k.now ≡ e.0.now = sym (same_text other k.now at_k) ∙ same_text other e.0.now at_e in
      let before : IsBefore e.0.now (get_or es n d).0.now = ascend 0 (suc n) d (omega arith) lt in
      true≢false (sym ((bytes_eq-Decides (get_or es n d).0.now e.0.now).1 (sym here ∙ same)) ∙ differs_before e.0.now (get_or es n d).0.now before))
      (set_at es n d (λ i j x less within. ascend (suc i) (suc j) x (omega arith) (omega arith)) (omega arith) is)
