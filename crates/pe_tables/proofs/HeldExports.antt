-- Each export is stored for its name, name by name.
use Rattle.std.proofs.Common.{◌≡◌, ℕ, Bool, true, List, [], ◌∷◌, ◌++◌, Option, Some, None, get_or, refl, sym, subst, ◌∙◌, inl, inr}
use Rattle.std.specs.Borrow.{Bor}
use Rattle.std.specs.Prelude.{◌&&◌, All, is_none, option_map, option_to_list, if◌then◌else◌}
use Rattle.std.specs.Str.{bytes_eq}
use Rattle.std.proofs.lemmas.Bool.{cases_Bool}
use Rattle.std.proofs.lemmas.List.Elements.{All-append, All-cons, All-nil}
use Rattle.std.proofs.lemmas.Slice.Eq.{bytes_eq-Decides}
use Rattle.pe_tables.specs.NameIndex.{held, Gains, Stays, Learns, AreHeld, IsSame}
use Rattle.pe_tables.specs.declared.key.Target as code
use Rattle.pe_tables.specs.declared.name_index.NameIndex.{NameIndex}

module _ {A : Type 0} (old new : NameIndex A) (text : Bor (List ℕ)) (ordinal : ℕ) (target : Option code.Target) where
  abbrev Export : Type 0
  Export = Bor (List ℕ) × code.Target

  abbrev IsHeldIn : NameIndex A → Export → Type 0
  IsHeldIn index export = held index export.0.now ≡ Some (Some export.1)

  -- an export from before has another name than one that was not stored
  kept : held old text.now ≡ None → Gains old new text ordinal target → (e : Export) → IsHeldIn old e → IsHeldIn new e
  kept unknown gains e is = elim (cases_Bool (bytes_eq e.0.now text.now)) [
    | inl same ↦
        (let text_is : e.0.now ≡ text.now = (bytes_eq-Decides e.0.now text.now).0 same in
        let some : held old text.now ≡ Some (Some e.1) = subst (λ (t : List ℕ). held old t ≡ Some (Some e.1)) text_is is in
        absurd cc)
    | inr differs ↦
        (let same : (if bytes_eq e.0.now text.now then Some target else held old e.0.now) ≡ held old e.0.now = rw differs refl in
        gains.targets e.0.now ∙ same ∙ is)
  ]

  last : Gains old new text ordinal target → held new text.now ≡ Some target
  last gains =
      let own : bytes_eq text.now text.now ≡ true = (bytes_eq-Decides text.now text.now).1 refl in
      let now : (if bytes_eq text.now text.now then Some target else held old text.now) ≡ Some target = rw own refl in
      gains.targets text.now ∙ now

  added : (o : Option code.Target) → held new text.now ≡ Some o → All (IsHeldIn new) (option_to_list (option_map (λ t. (text, t)) o))
  added None is = All-nil (IsHeldIn new)
  added (Some t) is = All-cons (IsHeldIn new) (text, t) [] is (All-nil (IsHeldIn new))

  gained : held old text.now ≡ None → Gains old new text ordinal target → AreHeld old → AreHeld new
  gained unknown gains all = subst (λ (es : List Export). All (IsHeldIn new) es) (sym gains.exports)
      (All-append (IsHeldIn new) old.exports.items (option_to_list (option_map (λ t. (text, t)) target))
      (λ k d lt. kept unknown gains (get_or old.exports.items k d) (all k d lt)) (added target (last gains)))

  stayed : Stays old new → AreHeld old → AreHeld new
  stayed same all = subst (λ (es : List Export). All (IsHeldIn new) es) (sym same.exports) (λ k d lt. same.targets (get_or old.exports.items k d).0.now ∙ all k d lt)

  learned : (o : Option (Option code.Target)) → held old text.now ≡ o → Learns old new text ordinal target o → AreHeld old → AreHeld new
  learned None was more all = gained was more all
  learned (Some t) was more all = stayed more all

  pub held-learns : Learns old new text ordinal target (held old text.now) → AreHeld old → AreHeld new
  held-learns more all = learned (held old text.now) refl more all

pub held-same : {A : Type 0} (old new : NameIndex A) → IsSame old new → AreHeld old → AreHeld new
held-same old new same all = rw same.exports (λ k d lt. same.held (get_or old.exports.items k d).0.now ∙ all k d lt)

-- a name that was not stored, and exports something
pub learns-some : {A : Type 0} (old new : NameIndex A) (text : Bor (List ℕ)) (ordinal : ℕ) (target : Option code.Target) (t : code.Target) (is_new : Bool) → target ≡ Some t → is_new ≡ true
    → is_new ≡ is_none (held old text.now) → ((other : List ℕ) → held new other ≡ (if is_new && bytes_eq other text.now then Some target else held old other))
    → new.exports.items ≡ old.exports.items ++ (text, t) ∷ [] → new.ordinals.items ≡ old.ordinals.items ++ ordinal ∷ [] → Learns old new text ordinal target (held old text.now)
learns-some {A} old new text ordinal target t is_new is said unknown targets exports ordinals = by (held old text.now) (sym said ∙ unknown)
  where
    by : (was : Option (Option code.Target)) → true ≡ is_none was → Learns old new text ordinal target was
    by None none = record {
      targets = rw said at targets;
      exports = rw is exports;
      ordinals = rw is ordinals;
    }
    by (Some x) none = absurd cc
