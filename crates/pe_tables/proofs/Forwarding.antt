-- Forwarder strings.
use Rattle.std.proofs.Common.{◌≡◌, ◌≢◌, ℕ, Bool, true, false, cond, List, [], ◌∷◌, ◌++◌, length, Option, Some, None, refl, sym, ap, subst, ◌∙◌, arith, inl, inr}
use Rattle.std.specs.Prelude.{◌==◌, ◌&&◌, All, nat_lt, nat_le, option_map, option_and_then}
use Rattle.std.specs.List.{list_all}
use Rattle.std.proofs.lemmas.Bool.{cases_Bool, and_parts, eqb-true}
use Rattle.std.proofs.lemmas.Bool.Decides.{nat_tests}
use Rattle.std.proofs.lemmas.List.Elements.{All-nil, All-cons}
use Rattle.std.proofs.lemmas.Option.{same_Some}
use Rattle.pe_tables.specs.Key.{Key, Ordinal, Forward}
use Rattle.pe_tables.specs.Forwarder.{is_digit, decimal_value, key_of, at_dot, at_last_dot, forward_to, forwarder_of, IsKeyText, IsForwarderText}

no_dot_byte : (byte : ℕ) → (byte == 46) ≡ false → byte ≢ 46
no_dot_byte byte other is = grind (arith, nat_tests)

-- a string without a last dot has no dot
without : (text : List ℕ) → at_last_dot text ≡ None → All (λ (byte : ℕ). byte ≢ 46) text
without [] none = All-nil _
without (byte ∷ bytes) none = by (without bytes) (at_last_dot bytes) refl none
  where
    by : (at_last_dot bytes ≡ None → All (λ (byte : ℕ). byte ≢ 46) bytes) → (o : Option (List ℕ × List ℕ)) → at_last_dot bytes ≡ o → at_dot byte bytes o ≡ None → All (λ (byte : ℕ). byte ≢ 46) (byte ∷ bytes)
    by later (Some sides) is gone = absurd cc
    by later None is gone = elim (cases_Bool (byte == 46)) [
      | inl dot ↦ (let found = rw dot at gone in absurd cc)
      | inr other ↦ All-cons (λ (byte : ℕ). byte ≢ 46) byte bytes (no_dot_byte byte other) (later is)
    ]

-- a string is the part before its last dot, the dot, and the part after it
pub record AreSides (text front back : List ℕ) : Type 0 where
  pub parts : text ≡ front ++ 46 ∷ back
  pub no_dot : All (λ (byte : ℕ). byte ≢ 46) back

pub sides : (text front back : List ℕ) → at_last_dot text ≡ Some (front, back) → AreSides text front back
sides [] front back is = absurd cc
sides (byte ∷ bytes) front back is = by (sides bytes) (at_last_dot bytes) refl is
  where
    by : ((front back : List ℕ) → at_last_dot bytes ≡ Some (front, back) → AreSides bytes front back) → (o : Option (List ℕ × List ℕ)) → at_last_dot bytes ≡ o → at_dot byte bytes o ≡ Some (front, back) → AreSides (byte ∷ bytes) front back
    by behind (Some (a, b)) found same =
        let later = behind a b found in
        let here : (byte ∷ a, b) ≡ (front, back) = same_Some _ _ same in
        let front_is : byte ∷ a ≡ front = ap (λ (p : List ℕ × List ℕ). p.0) here in
        let back_is : b ≡ back = ap (λ (p : List ℕ × List ℕ). p.1) here in
        record {
          parts = ap (λ (bs : List ℕ). byte ∷ bs) later.parts ∙ ap (λ (bs : List ℕ). bs ++ 46 ∷ b) front_is ∙ ap (λ (bs : List ℕ). front ++ 46 ∷ bs) back_is;
          no_dot = subst (λ (bs : List ℕ). All (λ (byte : ℕ). byte ≢ 46) bs) back_is later.no_dot;
        }
    by behind None found same = elim (cases_Bool (byte == 46)) [
      | inl dot ↦
          (let here : ([], bytes) ≡ (front, back) = same_Some _ _ (rw dot at same) in
          let front_is : [] ≡ front = ap (λ (p : List ℕ × List ℕ). p.0) here in
          let back_is : bytes ≡ back = ap (λ (p : List ℕ × List ℕ). p.1) here in
          record {
            parts = ap (λ (b : ℕ). b ∷ bytes) (eqb-true byte 46 dot) ∙ ap (λ (bs : List ℕ). bs ++ 46 ∷ bytes) front_is ∙ ap (λ (bs : List ℕ). front ++ 46 ∷ bs) back_is;
            no_dot = subst (λ (bs : List ℕ). All (λ (byte : ℕ). byte ≢ 46) bs) back_is (without bytes found);
          })
      | inr other ↦ (let none = rw other at same in absurd cc)
    ]

digits_of : (digits : List ℕ) (b : Bool) (key : Key) → (nat_lt 0 (length digits) && (list_all is_digit digits && nat_le (decimal_value 0 digits) 65535)) ≡ b
    → cond b (Some (Ordinal (decimal_value 0 digits))) None ≡ Some key → IsKeyText (35 ∷ digits) key
digits_of digits true key is some =
    let parts = and_parts _ _ (and_parts _ _ is).1 in
    subst (IsKeyText (35 ∷ digits)) (same_Some _ _ some) (digits, refl, parts.0, refl)
digits_of digits false key is some = absurd cc

-- the string of a key
key_text : (text : List ℕ) (key : Key) → key_of text ≡ Some key → IsKeyText text key
key_text [] key is = absurd cc
key_text (byte ∷ bytes) key is = elim (cases_Bool (byte == 35)) [
  | inl mark ↦ subst (λ (b : ℕ). IsKeyText (b ∷ bytes) key) (sym (eqb-true byte 35 mark)) (digits_of bytes _ key refl (rw mark at is))
  | inr other ↦ subst (IsKeyText (byte ∷ bytes)) (same_Some _ _ (rw other at is)) refl
]

same_name : (a b : List ℕ) (k l : Key) → Forward a k ≡ Forward b l → (a ≡ b) × (k ≡ l)
same_name a b k l same = (cc, cc)

to_key : (front back module_name : List ℕ) (key : Key) (o : Option Key) → key_of back ≡ o → option_map (Forward front) o ≡ Some (Forward module_name key) → (front ≡ module_name) × IsKeyText back key
to_key front back module_name key None none is = absurd cc
to_key front back module_name key (Some k) some is =
    let same = same_name front module_name k key (same_Some _ _ is) in
    (same.0, key_text back key (some ∙ ap (λ (k : Key). Some k) same.1))

forwarded : (front back module_name : List ℕ) (key : Key) (b : Bool) → cond b (option_map (Forward front) (key_of back)) None ≡ Some (Forward module_name key) → (front ≡ module_name) × IsKeyText back key
forwarded front back module_name key true is = to_key front back module_name key (key_of back) refl is
forwarded front back module_name key false is = absurd cc

pub forwarder-text : (text module_name : List ℕ) (key : Key) → forwarder_of text ≡ Some (Forward module_name key) → IsForwarderText text module_name key
forwarder-text text module_name key is = by (at_last_dot text) refl is
  where
    by : (o : Option (List ℕ × List ℕ)) → at_last_dot text ≡ o → option_and_then forward_to o ≡ Some (Forward module_name key) → IsForwarderText text module_name key
    by None none same = absurd cc
    by (Some (front, back)) found same =
        let parts = sides text front back found in
        let named = forwarded front back module_name key (nat_lt 0 (length front)) same in
        record {
          key_text = back;
          parts = parts.parts ∙ ap (λ (bs : List ℕ). bs ++ 46 ∷ back) named.0;
          no_dot = parts.no_dot;
          names = named.1;
        }
