-- Trails by exporter and end: one that is taken out, and one that is added.
use Rattle.std.proofs.Common.{◌≡◌, ◌∙◌, ℕ, Bool, true, false, cond, List, [], Option, None, Some, Result, Ok, Err, refl, sym, ap, subst, inl, inr}
use Rattle.std.specs.Prelude.{IfSome, OnOk, OnErr, option_map, slice_get}
use Rattle.std.specs.Ordering.{is_eq}
use Rattle.std.specs.BTreeMap.{get, is_at}
use Rattle.std.specs.Map.{lookup}
use Rattle.std.proofs.lemmas.Bool.{cases_Bool}
use Rattle.std.proofs.lemmas.Option.{same_Some}
use Rattle.pe_view.specs.TextEnds.{AreEndsOf}
use Rattle.pe_view.specs.declared.text_ends.TextEnds.{TextEnds}
use Rattle.pe_tables.specs.NameTrail.{IsTrailOf}
use Rattle.pe_tables.specs.declared.name_trail.NameTrail.{NameTrail}
use Rattle.pe_set.specs.RememberedView.{query_cmp}
use Rattle.pe_set.specs.TrailsView.{AreTrailsOf}
use Rattle.pe_set.specs.declared.reading.Module as code_module
use Rattle.pe_set.specs.declared.trails.Trails.{Trails}
use Rattle.pe_set.proofs.Remembering.{same_query}

-- what holds of each value that an option may be
pub if_some : {X : Type 0} (P : X → Type 0) (o : Option X) → ((x : X) → o ≡ Some x → P x) → IfSome o P
if_some P None each = tt
if_some P (Some x) each = each x refl

-- what follows from both outcomes of a call
pub in_both : {X Y : Type 0} (r : Result X Y) (P Q R : Type 0) → OnOk r P → OnErr r Q → (P → R) → (Q → R) → R
in_both (Ok x) P Q R ok err f g = f ok
in_both (Err y) P Q R ok err f g = g err

-- what holds of the second part of a pair
pub second_of : (P : ℕ → Type 0) (o : Option (ℕ × ℕ)) → IfSome o (λ p. P p.1) → IfSome (option_map (λ p. p.1) o) P
second_of P None h = tt
second_of P (Some p) h = h

module _ {A : Type 0} (modules : List (code_module.Module A)) (file : List ℕ) where
  pub no_trails : (trails : Trails A) → AreEndsOf file trails.texts → trails.trails.entries ≡ [] → AreTrailsOf modules file trails
  no_trails trails ends none = record {
    ends = ends;
    right = λ number end trail m got there. absurd (let missing = sym (ap (lookup (is_at (query_cmp (number, end)))) none) ∙ got in cc);
  }

  -- whatever string ends are remembered besides
  pub trails_kept : (old new : Trails A) → AreTrailsOf modules file old → AreEndsOf file new.texts → new.trails.entries ≡ old.trails.entries → AreTrailsOf modules file new
  trails_kept old new known ends same = record {
    ends = ends;
    right = λ number end trail m got there. known.right number end trail m (ap (lookup (is_at (query_cmp (number, end)))) (sym same) ∙ got) there;
  }

  pub trails_less : (old new : Trails A) (place : ℕ × ℕ) → AreTrailsOf modules file old → new.texts ≡ old.texts
      → ((q : ℕ × ℕ) → get query_cmp new.trails q ≡ cond (is_eq (query_cmp place q)) None (get query_cmp old.trails q)) → AreTrailsOf modules file new
  trails_less old new place known texts gone = record {
    ends = subst (λ (t : TextEnds A). AreEndsOf file t) (sym texts) known.ends;
    right = λ number end trail m got there. by number end trail m (is_eq (query_cmp place (number, end))) (sym (gone (number, end)) ∙ got) there;
  }
    where
      by : (number end : ℕ) (trail : NameTrail A) (m : code_module.Module A) (b : Bool) → cond b None (get query_cmp old.trails (number, end)) ≡ Some trail → slice_get modules number ≡ Some m → IsTrailOf m.image.exports file end trail
      by number end trail m true is there = absurd cc
      by number end trail m false is there = known.right number end trail m is there

  pub trails_more : (old new : Trails A) (number end : ℕ) (trail : NameTrail A) → AreTrailsOf modules file old → new.texts ≡ old.texts
      → IfSome (slice_get modules number) (λ (m : code_module.Module A). IsTrailOf m.image.exports file end trail)
      → ((q : ℕ × ℕ) → get query_cmp new.trails q ≡ cond (is_eq (query_cmp (number, end) q)) (Some trail) (get query_cmp old.trails q)) → AreTrailsOf modules file new
  trails_more old new number end trail known texts its updates = record {
    ends = subst (λ (t : TextEnds A). AreEndsOf file t) (sym texts) known.ends;
    right = λ n e t m got there.
        let after : cond (is_eq (query_cmp (number, end) (n, e))) (Some trail) (get query_cmp old.trails (n, e)) ≡ Some t = sym (updates (n, e)) ∙ got in
        elim (cases_Bool (is_eq (query_cmp (number, end) (n, e)))) [
          | inl same ↦
              (let parts = same_query (number, end) (n, e) same in
              let is : Some trail ≡ Some t = rw same at after in
              let here : slice_get modules number ≡ Some m = ap (λ (k : ℕ). slice_get modules k) parts.0 ∙ there in
              let at : IsTrailOf m.image.exports file end trail = subst (λ (o : Option (code_module.Module A)). IfSome o (λ (m : code_module.Module A). IsTrailOf m.image.exports file end trail)) here its in
              subst (λ (k : ℕ). IsTrailOf m.image.exports file k t) parts.1 (subst (λ (t : NameTrail A). IsTrailOf m.image.exports file end t) (same_Some trail t is) at))
          | inr apart ↦ (let before : get query_cmp old.trails (n, e) ≡ Some t = rw apart at after in known.right n e t m before there)
        ];
  }
