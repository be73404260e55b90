-- Forwarder strings that end alike.
use Rattle.std.proofs.Common.{◌≡◌, ℕ, zero, suc, ◌+◌, ◌-◌, ◌<◌, ◌≤◌, Bool, true, false, cond, List, [], ◌∷◌, ◌++◌, length, take, drop, Option, Some, None, refl, sym, ap, subst, ◌∙◌, arith, inl, inr, append-nil, length-drop}
use Rattle.std.specs.Prelude.{◌==◌, nat_lt, option_map, option_and_then}
use Rattle.std.specs.Ordering.{nat_cmp, is_eq}
use Rattle.std.specs.declared.cmp.Ordering.{Ordering}
use Rattle.std.specs.declared.cmp.Ordering.TheVariants.{Less, Equal, Greater}
use Rattle.std.specs.BTreeMap.{get, is_at}
use Rattle.std.proofs.lemmas.Map.Lookups.{exact_unsigned}
use Rattle.std.proofs.lemmas.Bool.{cases_Bool, cases_lt, lt-ltb, eqb-true}
use Rattle.std.proofs.lemmas.Option.{same_Some}
use Rattle.std.proofs.lemmas.List.{length-append, length-take-le, get_or-drop, drop-drop, drop-take, take-append-drop, drop_all}
use Rattle.pe_view.specs.declared.text_ends.TextEnds.{TextEnds}
use Rattle.pe_view.specs.TextEnds.{AreEndsOf}
use Rattle.pe_tables.specs.declared.forwarders.Ending.{Ending}
use Rattle.pe_tables.specs.declared.forwarders.Forwarders.{Forwarders}
use Rattle.pe_tables.specs.Key.{Key, Forward}
use Rattle.pe_tables.specs.Forwarder.{key_of, at_dot, at_last_dot, forward_to, forwarder_of}
use Rattle.pe_tables.specs.Forwarders.{part_before, IsEndingOf, AreForwardersOf}
use Rattle.pe_tables.proofs.Forwarding.{sides}
use Rattle.pe_tables.proofs.LastDot.{no_dot}

-- more bytes before a string come before its last dot
dot_later : (more text front back : List ℕ) → at_last_dot text ≡ Some (front, back) → at_last_dot (more ++ text) ≡ Some (more ++ front, back)
dot_later [] text front back is = is
dot_later (byte ∷ more) text front back is = ap (at_dot byte (more ++ text)) (dot_later more text front back is)

-- fewer bytes before its last dot
dot_sooner : (text front back : List ℕ) (k : ℕ) → at_last_dot text ≡ Some (front, back) → k ≤ length front → at_last_dot (drop k text) ≡ Some (drop k front, back)
dot_sooner text front back zero is le = is
dot_sooner [] front back (suc k) is le = absurd cc
dot_sooner (byte ∷ bytes) front back (suc k) is le = by (dot_sooner bytes) (at_last_dot bytes) refl is
  where
    by : ((front back : List ℕ) (k : ℕ) → at_last_dot bytes ≡ Some (front, back) → k ≤ length front → at_last_dot (drop k bytes) ≡ Some (drop k front, back))
        → (o : Option (List ℕ × List ℕ)) → at_last_dot bytes ≡ o → at_dot byte bytes o ≡ Some (front, back) → at_last_dot (drop k bytes) ≡ Some (drop (suc k) front, back)
    by later (Some (a, b)) found same =
        let here : (byte ∷ a, b) ≡ (front, back) = same_Some _ _ same in
        let front_is : byte ∷ a ≡ front = ap (λ (p : List ℕ × List ℕ). p.0) here in
        let back_is : b ≡ back = ap (λ (p : List ℕ × List ℕ). p.1) here in
        let size : length (byte ∷ a) ≡ length front = ap length front_is in
        later a b k found (omega (arith, le, size)) ∙ ap (λ (bs : List ℕ). Some (drop (suc k) bs, b)) front_is ∙ ap (λ (bs : List ℕ). Some (drop (suc k) front, bs)) back_is
    by later None found same = elim (cases_Bool (byte == 46)) [
      | inl dot ↦
          (let here : ([], bytes) ≡ (front, back) = same_Some _ _ (rw dot at same) in
          let size : length {A = ℕ} [] ≡ length front = ap (λ (p : List ℕ × List ℕ). length p.0) here in
          absurd (omega (arith, le, size)))
      | inr other ↦ (let none = rw other at same in absurd cc)
    ]

-- none of its bytes: the last dot is the first byte
pub dot_first : (text front back : List ℕ) → at_last_dot text ≡ Some (front, back) → at_last_dot (drop (length front) text) ≡ Some ([], back)
dot_first text front back is =
    dot_sooner text front back (length front) is (omega arith) ∙ ap (λ (bs : List ℕ). Some (bs, back)) (drop_all (length front) front (omega arith))

-- after the last dot there is none
dot_behind : (text back : List ℕ) (k : ℕ) → at_last_dot text ≡ Some ([], back) → 0 < k → at_last_dot (drop k text) ≡ None
dot_behind text back zero is some = absurd (omega (arith, some))
dot_behind text back (suc k) is some =
    let s = sides text [] back is in
    ap (λ (bs : List ℕ). at_last_dot (drop (suc k) bs)) s.parts
    ∙ no_dot (drop k back)
    (λ i lt is_dot. let size = length-drop k back in s.no_dot (k + i) 0 (omega (arith, lt, size)) (sym (get_or-drop k back i 0) ∙ eqb-true _ _ is_dot))

-- ---- a forwarder string
forwards : (front back : List ℕ) (key : Key) → key_of back ≡ Some key → 0 < length front → forward_to (front, back) ≡ Some (Forward front key)
forwards front back key named some =
    let there : nat_lt 0 (length front) ≡ true = lt-ltb _ _ some in
    (let e : forward_to (front, back) ≡ option_map (Forward front) (key_of back) = rw there refl in e) ∙ ap (option_map (Forward front)) named

-- the part before its last dot, and the key after it
pub record IsParted (text module_name : List ℕ) (key : Key) : Type 0 where
  pub back : List ℕ
  pub dot : at_last_dot text ≡ Some (module_name, back)
  pub names : key_of back ≡ Some key

to_key : (front back module_name : List ℕ) (key : Key) (o : Option Key) → key_of back ≡ o → option_map (Forward front) o ≡ Some (Forward module_name key) → (front ≡ module_name) × (key_of back ≡ Some key)
to_key front back module_name key None none is = absurd cc
to_key front back module_name key (Some k) some is = let same = same_Some _ _ is in (cc, some ∙ ap (λ (k : Key). Some k) cc)

forwarded : (front back module_name : List ℕ) (key : Key) (b : Bool) → cond b (option_map (Forward front) (key_of back)) None ≡ Some (Forward module_name key) → (front ≡ module_name) × (key_of back ≡ Some key)
forwarded front back module_name key true is = to_key front back module_name key (key_of back) refl is
forwarded front back module_name key false is = absurd cc

pub parted : (text module_name : List ℕ) (key : Key) → forwarder_of text ≡ Some (Forward module_name key) → IsParted text module_name key
parted text module_name key is = by (at_last_dot text) refl is
  where
    by : (o : Option (List ℕ × List ℕ)) → at_last_dot text ≡ o → option_and_then forward_to o ≡ Some (Forward module_name key) → IsParted text module_name key
    by None none same = absurd cc
    by (Some (front, back)) found same =
        let named = forwarded front back module_name key (nat_lt 0 (length front)) same in
        record { back = back; dot = found ∙ ap (λ (bs : List ℕ). Some (bs, back)) named.0; names = named.1 }

-- a module's name is shorter than the string
pub module_short : (text module_name : List ℕ) (key : Key) → IsParted text module_name key → length module_name < length text
module_short text module_name key p =
    let s = sides text module_name p.back p.dot in
    let size = ap (λ (bs : List ℕ). length bs) s.parts ∙ length-append module_name (46 ∷ p.back) in
    omega (arith, size)

-- ---- parts of a file before one end
pub part_drop : (file : List ℕ) (end len less : ℕ) → len ≤ end → less ≤ len → drop (len - less) (part_before file end len) ≡ part_before file end less
part_drop file end len less inside le =
    let size : len ≡ len - less + less = omega (arith, le) in
    let there : end - len + (len - less) ≡ end - less = omega (arith, le, inside) in
    ap (λ (n : ℕ). drop (len - less) (take n (drop (end - len) file))) size
    ∙ drop-take (len - less) less (drop (end - len) file)
    ∙ ap (take less) (drop-drop (len - less) (end - len) file ∙ ap (λ (n : ℕ). drop n file) there)

module _ (file : List ℕ) (end tail : ℕ) (back : List ℕ) (key : Key) (inside : tail ≤ end) (dot : at_last_dot (part_before file end tail) ≡ Some ([], back)) (names : key_of back ≡ Some key) where
  -- a string that begins before the dot
  pub longer : (text : List ℕ) → tail < length text → length text ≤ end → text ≡ part_before file end (length text) → forwarder_of text ≡ Some (Forward (take (length text - tail) text) key)
  longer text lt le is =
      let front : List ℕ = take (length text - tail) text in
      let behind : drop (length text - tail) text ≡ part_before file end tail = ap (drop (length text - tail)) is ∙ part_drop file end (length text) tail le (omega (arith, lt)) in
      let split : front ++ drop (length text - tail) text ≡ text = take-append-drop (length text - tail) text in
      let at : at_last_dot text ≡ Some (front, back) =
      ap at_last_dot (sym split) ∙ dot_later front (drop (length text - tail) text) [] back (ap at_last_dot behind ∙ dot) ∙ ap (λ (bs : List ℕ). Some (bs, back)) (append-nil front) in
      let size : length front ≡ length text - tail = length-take-le (length text - tail) text (omega arith) in
      ap (option_and_then forward_to) at ∙ forwards front back key names (omega (arith, size, lt))

  -- one that does not
  pub not_longer : (text : List ℕ) → length text ≤ tail → text ≡ part_before file end (length text) → forwarder_of text ≡ None
  not_longer text le is = elim (cases_lt (length text) tail) [
    | inl less ↦
        (let none : at_last_dot text ≡ None =
        ap at_last_dot (is ∙ sym (part_drop file end tail (length text) inside le)) ∙ dot_behind (part_before file end tail) back (tail - length text) dot (omega (arith, less)) in
        ap (option_and_then forward_to) none)
    | inr same ↦
        (let all : length text ≡ tail = omega (arith, same, le) in
        let at : at_last_dot text ≡ Some ([], back) = ap at_last_dot (is ∙ ap (part_before file end) all) ∙ dot in
        ap (option_and_then forward_to) at)
  ]

-- ---- the part of a forwarder string after the module's name
pub ending_dot : (file : List ℕ) (end : ℕ) (text module_name : List ℕ) (key : Key) (p : IsParted text module_name key) → length text ≤ end → text ≡ part_before file end (length text)
    → at_last_dot (part_before file end (length text - length module_name)) ≡ Some ([], p.back)
ending_dot file end text module_name key p le is =
    let lt = module_short text module_name key p in
    let less : length text - (length text - length module_name) ≡ length module_name = omega (arith, lt) in
    ap at_last_dot (sym (part_drop file end (length text) (length text - length module_name) le (omega arith)) ∙ ap (drop (length text - (length text - length module_name))) (sym is) ∙ ap (λ (n : ℕ). drop n text) less)
    ∙ dot_first text module_name p.back p.dot

-- ---- what is remembered
pub equal_only : (o : Ordering) → is_eq o ≡ true → o ≡ Equal
equal_only Less is = absurd cc
equal_only Equal is = refl
equal_only Greater is = absurd cc

-- one more ending
pub one_more : {A : Type 0} (file : List ℕ) (old new : Forwarders A) (end : ℕ) (ending : Ending) → AreForwardersOf file old → IsEndingOf file end ending → new.ends ≡ old.ends
    → ((q : ℕ) → get nat_cmp new.endings q ≡ cond (is_at (nat_cmp end) q) (Some ending) (get nat_cmp old.endings q)) → AreForwardersOf file new
one_more {A} file old new end ending known more ends endings = record {
  ends = subst (λ (es : TextEnds A). AreEndsOf file es) (sym ends) known.ends;
  endings = λ q other is. by q other (is_at (nat_cmp end) q) refl (sym (endings q) ∙ is);
}
  where
    by : (q : ℕ) (other : Ending) (b : Bool) → is_at (nat_cmp end) q ≡ b → cond b (Some ending) (get nat_cmp old.endings q) ≡ Some other → IsEndingOf file q other
    by q other true here is = subst (λ (n : ℕ). IsEndingOf file n other) (exact_unsigned end q (equal_only _ here)) (subst (IsEndingOf file end) (same_Some _ _ is) more)
    by q other false here is = known.endings q other is
